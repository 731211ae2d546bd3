-- Postings read from their beginning.
use Rattle.std.specs.Prelude.{◌≡◌, ℕ, zero, suc, ◌+◌, ◌-◌, ◌*◌, ◌/◌, ◌<◌, true, false, nat_lt, List, [], ◌∷◌, Option}
use Rattle.std.specs.Prelude.{Some, None}
use Rattle.std.specs.List.{AllByRecursion}
use Rattle.std.specs.Borrow.{Bor}
use Rattle.mail_index.specs.Tables.{RisesFrom}
use Rattle.mail_index.specs.Postings.{postings_from}

-- the number has at most this many groups of seven bits
abbrev pub IsShort : ℕ → ℕ → Type 0
IsShort zero n = n < 1
IsShort (suc groups) n = IsShort groups (n / 128)

-- a number that was split off and the bytes after it, as values
abbrev pub shown_split : Option (ℕ × Bor (List ℕ)) → Option (ℕ × List ℕ)
shown_split None = None
shown_split (Some p) = Some (p.0, p.1.now)

-- The numbers that bytes give, if the last number was low - 1, and `part` of the next difference has come, whose next
-- seven bits have the weight `weight`.
abbrev pub numbers_after : ℕ → ℕ → ℕ → List ℕ → List ℕ
numbers_after low part weight [] = []
numbers_after low part weight (b ∷ bs) = elim (nat_lt b 128) [
  | true ↦ (low + (part + b * weight) - 1) ∷ numbers_after (low + (part + b * weight)) 0 1 bs
  | false ↦ numbers_after low (part + (b - 128) * weight) (128 * weight) bs
]

-- the numbers that bytes give, if the last number was low - 1
unfoldable pub numbers_read : ℕ → List ℕ → List ℕ
numbers_read low bytes = numbers_after low 0 1 bytes

-- the bytes are the postings of these rising numbers from `low` on, each below a limit
pub record ArePostings (limit low : ℕ) (bytes ns : List ℕ) : Type 0 where
  pub rises : RisesFrom low ns
  pub below : AllByRecursion (λ n. n < limit) ns
  pub spelled : bytes ≡ postings_from low ns

-- the bytes are the postings of some rising numbers from `low` on, each below a limit
abbrev pub ArePosted : ℕ → ℕ → List ℕ → Type 0
ArePosted limit low bytes = (ns : List ℕ) × ArePostings limit low bytes ns
