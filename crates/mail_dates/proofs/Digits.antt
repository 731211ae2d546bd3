-- A list of digits has a digit at each place.
use Rattle.mail_dates.proofs.Words.{◌≡◌, ◌<◌, ◌≤◌, ◌-◌, ℕ, zero, suc, Bool, true, ◌&&◌, List, [], ◌∷◌, length, get_or, arith, list_all, nat_tests}
use Rattle.std.specs.Char.{is_ascii_digit, digit_value}

pub record IsDigit (b : ℕ) : Type 0 where
  pub low : 48 ≤ b
  pub high : b ≤ 57
  pub value : digit_value b ≡ b - 48

pub digit_is : (b : ℕ) → is_ascii_digit b ≡ true → IsDigit b
digit_is b e = grind (arith, nat_tests)

and_true : (a b : Bool) → (a && b) ≡ true → (a ≡ true) × (b ≡ true)
and_true a b h = grind arith

-- the element at each place is a digit
pub digit_at : (xs : List ℕ) (i : ℕ) → list_all is_ascii_digit xs ≡ true → i < length xs → IsDigit (get_or xs i 0)
digit_at [] i e h = absurd (omega arith)
digit_at (x ∷ xs) zero e h = grind (arith, digit_is)
digit_at (x ∷ xs) (suc i) e h = digit_at xs i (and_true _ _ e).1
    (omega arith)
