-- Where the first LF is, and how long the first line is.
use Rattle.mbox_cutter.proofs.Words.{◌≡◌, ℕ, zero, suc, ◌+◌, ◌<◌, ◌≤◌, Bool, true, false, ◌==◌, List, [], ◌∷◌, ◌++◌, Some, None, length, take, get_or, refl, ap, arith, min, nat_tests, IsFirstByte, is_byte, length_before_feed, line_end_of, first_length}
use Rattle.std.proofs.lemmas.List.{length-append}

pub not_true : (b : Bool) → (b ≡ true → ⊥) → b ≡ false
not_true b h = grind arith

pub length_before_feed-le : (b : List ℕ) → length_before_feed b ≤ length b
length_before_feed-le [] = omega arith
length_before_feed-le (x ∷ xs) = grind (arith, length_before_feed-le xs)

pub length_before_feed-at : (h : List ℕ) (k : ℕ) → k < length h → ((j : ℕ) → j < k → (get_or h j 0 == 10) ≡ true → ⊥)
    → (get_or h k 0 == 10) ≡ true → length_before_feed h ≡ k
length_before_feed-at [] k lt before here = absurd (omega arith)
length_before_feed-at (x ∷ xs) zero lt before here = rw here
length_before_feed-at (x ∷ xs) (suc k) lt before here =
    let e : (x == 10) ≡ false = not_true (x == 10) (before 0 (omega arith)) in
    rw e (ap suc (length_before_feed-at xs k (omega arith) (λ j l. before (suc j) (omega arith)) here))

pub length_before_feed-none : (h : List ℕ) → ((j : ℕ) → j < length h → (get_or h j 0 == 10) ≡ true → ⊥)
    → length_before_feed h ≡ length h
length_before_feed-none [] before = refl
length_before_feed-none (x ∷ xs) before =
    let e : (x == 10) ≡ false = not_true (x == 10) (before 0 (omega arith)) in
    rw e (ap suc (length_before_feed-none xs (λ j l. before (suc j) (omega arith))))

pub length_before_feed-take : (n : ℕ) (b : List ℕ) → length_before_feed (take n b) ≡ min n (length_before_feed b)
length_before_feed-take zero b = omega arith
length_before_feed-take (suc n) [] = omega arith
length_before_feed-take (suc n) (x ∷ xs) =
    grind (arith, length_before_feed-take n xs)

pub length_before_feed-append_in : (a b : List ℕ) → length_before_feed a < length a → length_before_feed (a ++ b)
    ≡ length_before_feed a
length_before_feed-append_in [] b below = absurd (omega arith)
length_before_feed-append_in (x ∷ xs) b below =
    grind (arith, length_before_feed-append_in xs b)

pub length_before_feed-append_out : (a b : List ℕ) → length_before_feed a ≡ length a → length_before_feed (a ++ b)
    ≡ length a + length_before_feed b
length_before_feed-append_out [] b whole = omega arith
length_before_feed-append_out (x ∷ xs) b whole =
    grind (arith, length_before_feed-append_out xs b)

-- the results of a search for the first LF among the first n bytes
pub length_before_feed-found : (h : List ℕ) (k : ℕ) → IsFirstByte (is_byte 10) h (Some k) → length_before_feed h ≡ k
length_before_feed-found h k f = grind (arith, length_before_feed-at)

pub length_before_feed-not_found : (h : List ℕ) → IsFirstByte (is_byte 10) h None → length_before_feed h ≡ length h
length_before_feed-not_found h f = grind (arith, length_before_feed-none)

pub first_length-le : (b : List ℕ) → first_length b ≤ length b
unfolding first_length
first_length-le b = grind (arith, length_before_feed-le)

pub first_length-positive : (b : List ℕ) → 0 < length b → 0 < first_length b
unfolding first_length
first_length-positive b h = grind (arith, nat_tests)

pub line_end-short : (b : List ℕ) (n : ℕ) → Some n ≡ line_end_of b → n ≤ 65537
unfolding line_end_of
line_end-short b n e = grind (arith, nat_tests)

pub line_end-within : (b : List ℕ) (n : ℕ) → Some n ≡ line_end_of b → n ≤ length b
unfolding line_end_of
line_end-within b n e = grind (arith, length_before_feed-le)

pub line_end-open : (b : List ℕ) → None ≡ line_end_of b → length b ≤ 65536
unfolding line_end_of
line_end-open b e = grind arith

pub line_end-whole : (b : List ℕ) → None ≡ line_end_of b → first_length b ≡ length b
unfolding line_end_of first_length
line_end-whole b e = grind arith

-- bytes that follow don't change the end of a line
pub line_end-more : (b more : List ℕ) (n : ℕ) → Some n ≡ line_end_of b → n ≡ first_length (b ++ more)
unfolding line_end_of first_length
line_end-more b more n e =
    grind (arith, length_before_feed-le, length-append, length_before_feed-append_in, length_before_feed-append_out)

pub line_end-positive : (b : List ℕ) (n : ℕ) → Some n ≡ line_end_of b → 0 < n
unfolding line_end_of
line_end-positive b n e = grind (arith, nat_tests)
