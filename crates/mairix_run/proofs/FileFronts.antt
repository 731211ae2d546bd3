-- The first bytes of a source, read a piece at a time.
use Rattle.std.proofs.Common.{◌≡◌, ℕ, ◌+◌, List, ◌++◌, length, Option, Some, IfSome}

-- what was read so far is after the old bytes, what is left comes after it, and this many bytes are read at most
abbrev pub HasReadFront : ℕ → ℕ → Option (List ℕ) → Option (List ℕ) → List ℕ → List ℕ → Type 0
HasReadFront most left before now old new = IfSome now (λ rest. (read : List ℕ)
    × (new ≡ old ++ read) × (before ≡ Some (read ++ rest)) × (length read + left ≡ most))
