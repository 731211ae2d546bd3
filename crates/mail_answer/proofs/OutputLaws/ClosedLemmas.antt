-- A span is closed by what closes its last line, because the lines before it stay the same.
use Rattle.mail_answer.proofs.Words.{◌≡◌, ℕ, ◌+◌, ◌<◌, Bool, true, false, cond, ◌||◌, nat_lt, nat_eq, List, [], ◌∷◌, ◌++◌, Some, length, take, drop, refl, ap, sym, ◌∙◌, append_assoc, append-nil, arith, nat_tests, drop-append-le, drop_all, take-append-drop, is_empty, lines, first_length, line_end_of, length_before_feed, line_end-more, first_length-le, length_before_feed-le, length_before_feed-append_out, lines-cons, lines-nil, feed, has_feed, feeds_after, next_text, after_next, closed_text, is_closed, last_line_of}
use Rattle.std.specs.Str.{bytes_eq}
use Rattle.std.proofs.lemmas.List.{length-append, length-drop, take_all}

ended : (b : List ℕ) → first_length b < length b → Some (first_length b) ≡ line_end_of b
unfolding first_length line_end_of
ended = grind (arith, nat_tests)

pub last-cons : (l : List ℕ) (b : List ℕ) → 0 < length b → last_line_of (l ∷ lines b) ≡ last_line_of (lines b)
last-cons l b h = let e = lines-cons b h in rw (e) refl

-- the last line is decided by what follows the first line
pub last_after : (b x : List ℕ) → first_length b < length b → last_line_of (lines (b ++ x))
    ≡ last_line_of (lines (after_next b ++ x))
last_after b x h =
    let n = first_length b in
    let same = line_end-more b x n (ended b h) in
    let long = length-append b x in
    let rest = ap (λ k. drop k (b ++ x)) (sym same)
    ∙ drop-append-le n b x (omega arith) in
    let some : 0 < length (drop n b ++ x) = omega (arith, length-append (drop n b) x, length-drop n b) in
    grind (arith, lines-cons, last-cons)

closed_after : (b x : List ℕ) → first_length b < length b → is_closed (b ++ x) ≡ is_closed (after_next b ++ x)
closed_after b x h = ap is_empty (last_after b x h)

-- a single line
single : (b : List ℕ) → 0 < length b → first_length b ≡ length b → is_closed b ≡ is_empty b
single = grind (arith, lines-cons, drop_all, lines-nil, take_all)

feed_closed : is_closed feed ≡ true
unfolding lines first_length is_empty
feed_closed = refl

pub has_feed-is : (b : List ℕ) → has_feed b ≡ nat_lt (length_before_feed b) (length b)
has_feed-is [] = refl
has_feed-is (x ∷ xs) = grind (arith, nat_tests, has_feed-is xs)

pub whole_end : (b : List ℕ) → first_length b ≡ length b → nat_lt (length_before_feed b) (length b) ≡ true
    → Some (first_length b) ≡ line_end_of b
unfolding first_length line_end_of
whole_end = grind (arith, nat_tests)

pub whole_feed : (b : List ℕ) → first_length b ≡ length b → nat_lt (length_before_feed b) (length b) ≡ false
    → first_length (b ++ feed) ≡ length (b ++ feed)
unfolding first_length
whole_feed b e f =
    let k = length_before_feed-le b in
    let none : length_before_feed b ≡ length b = grind (arith, nat_tests) in
    let more = length_before_feed-append_out b feed none in
    let long = length-append b feed in
    grind (arith, nat_tests)

-- a line that ends in LF is followed by an empty one
ended_line : (b : List ℕ) → 0 < length b → first_length b ≡ length b → has_feed b ≡ true → is_closed (b ++ feed) ≡ true
ended_line b h e f =
    let n = first_length b in
    let same = line_end-more b _ n (whole_end b e (sym (has_feed-is b) ∙ f)) in
    let long = length-append b feed in
    ap (λ ls. is_empty (last_line_of ls)) (lines-cons _ (omega arith))
    ∙ ap (λ k. is_empty (last_line_of (take k (b ++ feed) ∷ lines (drop k (b ++ feed))))) (sym same ∙ e)
    ∙ ap (λ r. is_empty (last_line_of (take (length b) (b ++ feed) ∷ lines r)))
    (drop-append-le (length b) b feed (omega arith) ∙ ap (λ r. r ++ feed) (drop_all _ b (omega arith)))
    ∙ ap is_empty (last-cons _ _ (omega arith)) ∙ feed_closed

open_line : (b : List ℕ) → 0 < length b → first_length b ≡ length b → has_feed b ≡ false → is_closed (b ++ feed)
    ≡ is_empty (b ++ feed)
open_line b h e f = single _ (omega (arith, length-append b feed)) (whole_feed b e (sym (has_feed-is b) ∙ f))

-- CR alone becomes an empty line
pub cr_line : (b : List ℕ) → 0 < length b → is_empty (b ++ feed) ≡ bytes_eq b (13 ∷ [])
unfolding is_empty
cr_line [] h = absurd (omega arith)
cr_line (x ∷ []) h = grind arith
cr_line (x ∷ y ∷ []) h = grind arith
cr_line (x ∷ y ∷ z ∷ rest) h = grind arith

with_feeds : (b : List ℕ) → (e f g : Bool) → is_closed b ≡ e → is_closed (b ++ feed) ≡ f → closed_text b
    ≡ cond e b (cond f (b ++ feed) (b ++ feed ++ feed))
unfolding closed_text
with_feeds b e f g p q = rw (p, q) refl

pub one_line : (b : List ℕ) → 0 < length b → first_length b ≡ length b → closed_text b ≡ b ++ feeds_after b
one_line b h e = with_feeds b _ _ true (single b h e) (feed_decides b h e)
    ∙ parts _ _
  where
    parts : (e f : Bool) → cond e b (cond f (b ++ feed) (b ++ feed ++ feed))
        ≡ b ++ cond e [] (cond f feed (feed ++ feed))
    parts true f = sym (append-nil b)
    parts false true = refl
    parts false false = append_assoc b feed feed

    feed_decides : (b : List ℕ) → 0 < length b → first_length b ≡ length b → is_closed (b ++ feed)
        ≡ (has_feed b || bytes_eq b (13 ∷ []))
    feed_decides b h e = go _ refl
      where
        go : (v : Bool) → has_feed b ≡ v → is_closed (b ++ feed) ≡ (has_feed b || bytes_eq b (13 ∷ []))
        go true f = ended_line b h e f ∙ ap (λ v. v || bytes_eq b (13 ∷ [])) (sym f)
        go false f = open_line b h e f ∙ cr_line b h ∙ ap (λ v. v || bytes_eq b (13 ∷ [])) (sym f)

after-length : (b : List ℕ) → length (after_next b) + first_length b ≡ length b
after-length b = omega (arith, length-drop (first_length b) b, first_length-le b)

not_last : (n m : ℕ) → n < m → nat_eq n m ≡ false
not_last = grind (arith, nat_tests)

-- a line that isn't the last
pub next_front : (b : List ℕ) → first_length b < length b → next_text b ≡ take (first_length b) b
next_front b h = let front = take (first_length b) b
    in rw (not_last _ _ h) (append-nil front)

-- the first of several lines
pub closed_more : (b : List ℕ) → 0 < length (after_next b) → closed_text b ≡ next_text b ++ closed_text (after_next b)
closed_more b z =
    let h : first_length b < length b = omega (arith, after-length b) in
    let rest = after_next b in
    let front = take (first_length b) b in
    let next : next_text b ≡ front = rw (not_last _ _ h) (append-nil front) in
    let whole = take-append-drop (first_length b) b in
    let e = ap is_closed (sym (append-nil b)) ∙ closed_after b _ h
    ∙ ap is_closed (append-nil rest) in
    with_feeds b _ _ true e (closed_after b _ h)
    ∙ parts _ _ b whole _ _
    ∙ ap (λ l. front ++ l) (sym (with_feeds _ _ _ true refl refl))
    ∙ ap (λ l. l ++ closed_text rest) (sym next)
  where
    parts : (front rest b : List ℕ) → front ++ rest ≡ b → (e f : Bool)
        → cond e b (cond f (b ++ feed) (b ++ feed ++ feed))
        ≡ front ++ cond e rest (cond f (rest ++ feed) (rest ++ feed ++ feed))
    parts front rest b w true f = sym w
    parts front rest b w false true = ap (λ l. l ++ feed) (sym w) ∙ append_assoc front rest feed
    parts front rest b w false false = ap (λ l. (l ++ feed) ++ feed) (sym w)
        ∙ ap (λ l. l ++ feed) (append_assoc front rest feed) ∙ append_assoc front (rest ++ feed) feed
