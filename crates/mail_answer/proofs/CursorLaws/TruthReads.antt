-- The truth of a number in lists that were made from others.
use Rattle.mail_answer.proofs.Words.{◌≡◌, ◌<◌, ◌≤◌, ℕ, zero, suc, Bool, false, ◌&&◌, ◌||◌, List, [], ◌∷◌, refl, sym, arith, get_or_past, length-map-range_with_len, get_or-map-range_with_len, and-false, or-false, truth_at, each_number, both, one_or_other}

pub each-at : (count : ℕ) (test : ℕ → Bool) (n : ℕ) → n < count → truth_at (each_number count test) n ≡ test n
each-at count test n lt = get_or-map-range_with_len _ 0 _ n n _ lt (omega arith)

pub each-past : (count : ℕ) (test : ℕ → Bool) (n : ℕ) → count ≤ n → truth_at (each_number count test) n ≡ false
each-past = grind (arith, get_or_past, length-map-range_with_len)

pub both-at : (xs ys : List Bool) (n : ℕ) → truth_at (both xs ys) n ≡ (truth_at xs n && truth_at ys n)
both-at [] ys n = refl
both-at (x ∷ xs) [] n = sym (and-false _)
both-at (x ∷ xs) (y ∷ ys) zero = refl
both-at (x ∷ xs) (y ∷ ys) (suc n) = both-at xs ys n

pub one_or_other-at : (xs ys : List Bool) (n : ℕ) → truth_at (one_or_other xs ys) n ≡ (truth_at xs n || truth_at ys n)
one_or_other-at [] ys n = refl
one_or_other-at (x ∷ xs) [] n = sym (or-false _)
one_or_other-at (x ∷ xs) (y ∷ ys) zero = refl
one_or_other-at (x ∷ xs) (y ∷ ys) (suc n) = one_or_other-at xs ys n
