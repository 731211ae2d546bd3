-- The front of bytes that passes a test, and blanks at both ends.
use Rattle.header_text.proofs.Words.{◌≡◌, ◌∙◌, ◌++◌, ◌-◌, ◌≤◌, ◌+◌, ℕ, Bool, true, false, List, [], ◌∷◌, length, take, drop, reverse, refl, arith, length-append, append_assoc, take_at, reverse-append, reverse-reverse, take-append-drop, length-take-le, is_blank, split_while, after_blanks, before_blanks}

-- the two parts join to the whole
pub split_while-joined : (p : ℕ → Bool) (bs : List ℕ) → (split_while p bs).0 ++ (split_while p bs).1 ≡ bs
split_while-joined p [] = refl
split_while-joined p (b ∷ bs) = grind (arith, split_while-joined p bs)

-- the first part is what is before the second
pub take-split_while : (p : ℕ → Bool) (bs : List ℕ) → take (length bs - length (split_while p bs).1) bs
    ≡ (split_while p bs).0
take-split_while p bs =
    let joined : (split_while p bs).0 ++ (split_while p bs).1 ≡ bs = split_while-joined p bs in
    grind (arith, length-append, take_at)

pub length-split_while : (p : ℕ → Bool) (bs : List ℕ) → length (split_while p bs).1 ≤ length bs
length-split_while p bs =
    let joined : (split_while p bs).0 ++ (split_while p bs).1 ≡ bs = split_while-joined p bs in
    grind (arith, length-append)

-- a blank at the end is dropped, and any other byte ends the search
pub before_blanks-last : (bs : List ℕ) (b : ℕ) → is_blank b ≡ true → before_blanks (bs ++ b ∷ []) ≡ before_blanks bs
unfolding before_blanks
before_blanks-last bs b e = grind (arith, reverse-append)

pub before_blanks-stops : (bs : List ℕ) (b : ℕ) → is_blank b ≡ false → before_blanks (bs ++ b ∷ []) ≡ bs ++ b ∷ []
unfolding before_blanks
before_blanks-stops bs b e = grind (arith, reverse-append, reverse-reverse)

pub before_blanks-nil : before_blanks [] ≡ []
unfolding before_blanks
before_blanks-nil = refl

-- the blanks at the front and the rest join to the whole
pub after_blanks-joined : (bs : List ℕ) → (front : List ℕ) × (bs ≡ front ++ after_blanks bs)
after_blanks-joined [] = ([], refl)
after_blanks-joined (b ∷ bs) = go (is_blank b) refl (after_blanks-joined bs)
  where
    go : (t : Bool) → is_blank b ≡ t → (front : List ℕ) × (bs ≡ front ++ after_blanks bs) → (front : List ℕ)
        × (b ∷ bs ≡ front ++ after_blanks (b ∷ bs))
    go true e later = (b ∷ later.0, grind arith)
    go false e later = ([], rw (e, after_blanks) refl)

pub before_blanks-joined : (bs : List ℕ) → (end : List ℕ) × (bs ≡ before_blanks bs ++ end)
unfolding before_blanks
before_blanks-joined bs =
    let back = after_blanks-joined (reverse bs) in
    (reverse back.0, grind (arith, reverse-reverse, reverse-append))

-- the bytes up to a place, and those after it trimmed at the end
pub take-before_blanks : (bs : List ℕ) (n : ℕ) → n ≤ length bs → take (n + length (before_blanks (drop n bs))) bs
    ≡ take n bs ++ before_blanks (drop n bs)
take-before_blanks bs n le =
    let kept : List ℕ = before_blanks (drop n bs) in
    let end = before_blanks-joined (drop n bs) in
    let whole : (take n bs ++ kept) ++ end.0 ≡ bs = grind (arith, append_assoc, take-append-drop) in
    grind (arith, length-append, length-take-le, take_at)
