-- Counts of steps add up, also if the count has reached its greatest value.
use Rattle.mail_index.proofs.Words.{◌≡◌, ℕ, suc, ◌+◌, arith, add_steps}

-- no step
pub add_steps-none : (old : ℕ) → old ≡ add_steps old 0
add_steps-none _ = omega arith

-- one more step
pub add_steps-one : (old n : ℕ) → add_steps (add_steps old n) 1 ≡ add_steps old (suc n)
add_steps-one _ n = omega arith

-- one step, and then more steps
pub add_steps-more : (old n : ℕ) → add_steps (add_steps old 1) n ≡ add_steps old (suc n)
add_steps-more _ n = omega arith

-- this many steps, and then more steps
pub add_steps-both : (old m n : ℕ) → add_steps (add_steps old m) n ≡ add_steps old (m + n)
add_steps-both _ m n = omega arith
