-- The ranges of a list, each from a place to an end after it.
use Rattle.std.specs.Prelude.{◌≡◌, ℕ, zero, suc, ◌<◌, ◌⊎◌, Bool, List, [], ◌∷◌, ◌++◌, length, take, drop, map, reverse}
use Rattle.std.specs.Prelude.{slice_range}

-- this many numbers, one after another, from the first on
abbrev pub numbers_from : ℕ → ℕ → List ℕ
numbers_from first zero = []
numbers_from first (suc count) = first ∷ numbers_from (suc first) count

-- all ranges that begin in these elements, the first of which is at place i: in the order of places, and then of ends
abbrev pub ranges_from : ℕ → List ℕ → List (ℕ × ℕ)
ranges_from i [] = []
ranges_from i (c ∷ cs) = map (λ end. (i, end)) (numbers_from (suc i) (length (c ∷ cs))) ++ ranges_from (suc i) cs

-- whether a range passes a test, which is given the elements before it, the nearest first, those in it, and those after
-- it
abbrev pub passes_at : (List ℕ → List ℕ → List ℕ → Bool) → List ℕ → ℕ × ℕ → Bool
passes_at passes cs r = passes (reverse (take r.0 cs)) (slice_range cs r.0 r.1) (drop r.1 cs)

-- ---- their order

-- the first range begins before the second, or at the same place and ends before it
abbrev pub IsBefore : ℕ × ℕ → ℕ × ℕ → Type 0
IsBefore r s = (r.0 < s.0) ⊎ ((r.0 ≡ s.0) × (r.1 < s.1))

-- the range is before each of the others
abbrev pub IsBeforeEach : ℕ × ℕ → List (ℕ × ℕ) → Type 0
IsBeforeEach r [] = Unit {0}
IsBeforeEach r (s ∷ ss) = IsBefore r s × IsBeforeEach r ss

-- each range is before all that follow it, so none is there twice
abbrev pub AreInOrder : List (ℕ × ℕ) → Type 0
AreInOrder [] = Unit {0}
AreInOrder (r ∷ rs) = IsBeforeEach r rs × AreInOrder rs
