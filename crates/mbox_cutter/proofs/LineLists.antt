-- The lines of bytes are the first line and the lines of the bytes after it, however many turns are allowed.
use Rattle.mbox_cutter.proofs.Words.{◌≡◌, ℕ, zero, suc, ◌<◌, ◌≤◌, List, [], ◌∷◌, length, take, drop, refl, ap, arith, length-drop, lines, first_lines, first_length}
use Rattle.mbox_cutter.proofs.FirstLines.{first_length-positive}

-- after the first line there are fewer bytes
after-fewer : (b : List ℕ) (n : ℕ) → 0 < length b → length b ≤ suc n → length (drop (first_length b) b) ≤ n
after-fewer b n some h = grind (arith, first_length-positive, length-drop)

-- what holds of no bytes, and of any bytes if it holds of those after their first line, holds of all bytes
pub by_lines : (P : List ℕ → Type 0) → P [] → ((b : List ℕ) → 0 < length b → P (drop (first_length b) b) → P b)
    → (n : ℕ) (b : List ℕ) → length b ≤ n → P b
by_lines P none each n [] h = none
by_lines P none each zero (x ∷ xs) h = absurd (omega arith)
by_lines P none each (suc n) (x ∷ xs) h =
    grind (
      arith,
      after-fewer,
      by_lines P none each n (drop (first_length (x ∷ xs)) (x ∷ xs))
          (after-fewer (x ∷ xs) n (omega arith) h),
    )

-- more turns than bytes change nothing
first_lines-enough : (n m : ℕ) (b : List ℕ) → length b ≤ n → length b ≤ m → first_lines n b ≡ first_lines m b
first_lines-enough zero zero b p q = refl
first_lines-enough zero (suc m) [] p q = refl
first_lines-enough zero (suc m) (x ∷ xs) p q = absurd (omega arith)
first_lines-enough (suc n) zero [] p q = refl
first_lines-enough (suc n) zero (x ∷ xs) p q = absurd (omega arith)
first_lines-enough (suc n) (suc m) [] p q = refl
first_lines-enough (suc n) (suc m) (x ∷ xs) p q =
    grind (
      arith,
      after-fewer,
      first_lines-enough n m (drop (first_length (x ∷ xs)) (x ∷ xs))
          (after-fewer (x ∷ xs) n (omega arith) p) (after-fewer (x ∷ xs) m (omega arith) q),
    )

pub lines-cons : (b : List ℕ) → 0 < length b → lines b ≡ take (first_length b) b ∷ lines (drop (first_length b) b)
unfolding lines
lines-cons [] h = absurd (omega arith)
lines-cons (x ∷ xs) h =
    ap (λ (ls : List (List ℕ)). take (first_length (x ∷ xs)) (x ∷ xs) ∷ ls)
    (first_lines-enough (length xs) _ (drop (first_length (x ∷ xs)) (x ∷ xs))
    (after-fewer (x ∷ xs) (length xs) h (omega arith)) (omega arith))

pub lines-nil : lines [] ≡ []
unfolding lines
lines-nil = refl
