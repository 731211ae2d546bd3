-- Differences of one or two bytes, and the sum of those in a load of sixteen bytes.
use Rattle.std.specs.Prelude.{◌≡◌, ℕ, ◌*◌, ◌%◌, ◌^◌, ◌<◌, ◌⊎◌, nat_lt, if◌then◌else◌, List, ◌∷◌, ◌++◌, flat_map}
use Rattle.std.specs.List.{AllByRecursion}
use Rattle.std.specs.Simd.Lanes.{Each2, sum_l, zip2}
use Rattle.mail_index.specs.Postings.{leb128}

-- a byte isn't 0, and of this byte and the one before it at most one has its high bit set
abbrev pub IsShortPair : ℕ → ℕ → Type 0
IsShortPair before b = (0 < b) × ((before < 128) ⊎ (b < 128))

-- this holds for each of the bytes, where 0 comes before the first
abbrev pub AreShort : List ℕ → Type 0
AreShort bytes = Each2 IsShortPair (0 ∷ bytes) bytes

-- the low seven bits of a byte, 128 times if the byte before it has its high bit set
abbrev pub weight : ℕ → ℕ → ℕ
weight before b = if nat_lt before 128 then b % 128 else 128 * (b % 128)

-- the sum of the weights of bytes, of which the first begins a difference
abbrev pub sum_in_load : List ℕ → ℕ
sum_in_load bytes = sum_l (zip2 weight (0 ∷ bytes) bytes)

-- the bytes begin with differences of one or two bytes, which have this sum, and the rest follows these
pub record HasPassed (bytes : List ℕ) (sum : ℕ) (rest : List ℕ) : Type 0 where
  pub differences : List ℕ
  pub each : AllByRecursion (λ d. (0 < d) × (d < 2 ^ 14)) differences
  pub total : sum ≡ sum_l differences
  pub spelled : bytes ≡ flat_map (leb128 5) differences ++ rest
