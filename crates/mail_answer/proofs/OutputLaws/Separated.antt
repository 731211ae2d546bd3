-- A line without LF, whose last byte isn't CR, is a separator with an LF exactly if it is one without: byte by byte.
use Rattle.mail_answer.proofs.Words.{◌≡◌, ◌∙◌, ℕ, zero, suc, ◌+◌, ◌-◌, ◌<◌, Bool, true, false, ◌&&◌, ◌==◌, List, [], ◌∷◌, ◌++◌, length, take, drop, refl, ap, arith, length-append, take-append_seam, drop-append_seam, and_right, or_parts, false_from_ne_true, drop-append-le, bytes_eq-Decides, is_empty, is_separator, without_break, feed, has_feed, ends_in_return}
use Rattle.std.specs.Str.{bytes_eq}

pub feed_is_empty : is_empty feed ≡ true
unfolding is_empty
feed_is_empty = refl

-- ---- the last byte

-- CR alone ends in CR
pub return-alone : (l : List ℕ) → ends_in_return l ≡ false → bytes_eq l (13 ∷ []) ≡ false
return-alone [] other = refl
return-alone (x ∷ []) other = rw other refl
return-alone (x ∷ y ∷ l) other = and_right _ _ refl

-- bytes before others don't change the last byte
pub return-after : (a b : List ℕ) → 0 < length b → ends_in_return (a ++ b) ≡ ends_in_return b
return-after [] b some = refl
return-after (x ∷ []) [] some = absurd (omega arith)
return-after (x ∷ []) (y ∷ b) some = refl
return-after (x ∷ z ∷ a) b some = return-after (z ∷ a) b some

-- the last byte, which isn't CR
record IsLast (l : List ℕ) : Type 0 where
  pub byte : ℕ
  pub is : drop (length l - 1) l ≡ byte ∷ []
  pub other : (byte == 13) ≡ false

last-of : (l : List ℕ) → 0 < length l → ends_in_return l ≡ false → IsLast l
last-of [] some other = absurd (omega arith)
last-of (x ∷ []) some other = record { byte = x; is = refl; other = other }
last-of (x ∷ y ∷ l) some other =
    let rest = last-of (y ∷ l) (omega arith) other in
    let less : length (x ∷ y ∷ l) - 1 ≡ suc (length (y ∷ l) - 1) = omega arith in
    record { byte = rest.byte; is = grind arith; other = rest.other }

-- ---- the line without its break

feed-dropped : (k : ℕ) (l : List ℕ) → has_feed l ≡ false → has_feed (drop k l) ≡ false
feed-dropped zero l none = none
feed-dropped (suc k) [] none = refl
feed-dropped (suc k) (x ∷ l) none = feed-dropped k l (or_parts _ _ none).1

no-feed-in : (a b : List ℕ) → has_feed a ≡ false → has_feed b ≡ true → bytes_eq a b ≡ false
no-feed-in = grind (arith, false_from_ne_true, bytes_eq-Decides)

unbroken : (l : List ℕ) → has_feed l ≡ false → without_break l ≡ l
unfolding without_break
unbroken = grind (arith, no-feed-in, feed-dropped)

feed-broken : (l : List ℕ) → ends_in_return l ≡ false → without_break (l ++ feed) ≡ l
unfolding without_break
feed-broken [] other = refl
feed-broken (x ∷ xs) other =
    let l = x ∷ xs in
    let long = length-append l feed in
    let last = last-of l (omega arith) other in
    let less : length (l ++ feed) - 2 ≡ length l - 1 = omega arith in
    let same : length (l ++ feed) - 1 ≡ length l = omega arith in
    let two =
    ap (λ n. drop n (l ++ feed)) less ∙ drop-append-le (length l - 1) l feed (omega arith)
    ∙ ap (λ r. r ++ feed) last.is in
    let one = ap (λ n. drop n (l ++ feed)) same
    ∙ drop-append_seam l feed in
    let front = ap (λ n. take n (l ++ feed)) same
    ∙ take-append_seam l feed in
    let not_two : bytes_eq (drop (length (l ++ feed) - 2) (l ++ feed)) (13 ∷ 10 ∷ []) ≡ false =
    ap (λ (r : List ℕ). bytes_eq r (13 ∷ 10 ∷ [])) two ∙ rw last.other refl in
    let is_one : bytes_eq (drop (length (l ++ feed) - 1) (l ++ feed)) (10 ∷ []) ≡ true =
    ap (λ (r : List ℕ). bytes_eq r (10 ∷ [])) one in
    rw (not_two, is_one) front

-- ---- a separator

return-dropped : (a b c d e : ℕ) (rest : List ℕ) → ends_in_return (a ∷ b ∷ c ∷ d ∷ e ∷ rest) ≡ false
    → ends_in_return rest ≡ false
return-dropped = grind arith

neither : (v t u : Bool) → v ≡ false → (v && t) ≡ (v && u)
neither v t u e = rw e refl

pub separator-feed : (l : List ℕ) → has_feed l ≡ false → ends_in_return l ≡ false → is_separator (l ++ feed)
    ≡ is_separator l
unfolding is_separator
separator-feed [] none other = refl
separator-feed (a ∷ []) none other = neither _ _ _ (and_right _ _ refl)
separator-feed (a ∷ b ∷ []) none other =
    neither _ _ _ (and_right _ _ (and_right _ _ refl))
separator-feed (a ∷ b ∷ c ∷ []) none other = grind (arith, neither, and_right)
separator-feed (a ∷ b ∷ c ∷ d ∷ []) none other = grind (arith, neither, and_right)
separator-feed (a ∷ b ∷ c ∷ d ∷ e ∷ rest) none other =
    grind (arith, feed-broken, return-dropped, unbroken, feed-dropped)
