-- The bytes of a list of message numbers.
use Rattle.std.specs.Prelude.{ℕ, zero, suc, ◌+◌, ◌-◌, ◌/◌, ◌%◌, nat_lt, if◌then◌else◌, List, [], ◌∷◌, flat_map}

-- The shortest unsigned LEB128, of at most this many bytes: seven bits a byte, the lowest first, and 128 added to each
-- byte but the last.
abbrev pub leb128 : ℕ → ℕ → List ℕ
leb128 zero n = []
leb128 (suc most) n = if nat_lt n 128 then n ∷ [] else (128 + n % 128) ∷ leb128 most (n / 128)

-- each number as its difference from the one before it; for the first number the one before is low - 1
abbrev pub differences_from : ℕ → List ℕ → List ℕ
differences_from low [] = []
differences_from low (n ∷ ns) = (suc n - low) ∷ differences_from (suc n) ns

-- the bytes of the differences; a difference is at most 2 ^ 32, so it has at most five bytes
abbrev pub postings_from : ℕ → List ℕ → List ℕ
postings_from low numbers = flat_map (leb128 5) (differences_from low numbers)

-- the bytes of rising numbers
abbrev pub postings : List ℕ → List ℕ
postings numbers = postings_from 0 numbers
