-- Which names a run makes, each of them with whether all that had been reported by then agreed with what is supposed.
use Rattle.std.specs.Prelude.{◌≡◌, ℕ, Bool, true, List, ◌++◌, All}
use Rattle.std.specs.List.{Contains}

-- Names were made. Each that was made while all reports agreed is one of these.
unfoldable pub AsksOnlyFor : List (List ℕ) → List (List ℕ × Bool) → List (List ℕ × Bool) → Type 0
AsksOnlyFor names old new =
    (made : List (List ℕ × Bool)) × (new ≡ made ++ old) × All (λ m. m.1 ≡ true → Contains names m.0) made

-- the same, and if all reports agreed when a name was made, they agreed at first
unfoldable pub AsksFor : List (List ℕ) → Bool → List (List ℕ × Bool) → List (List ℕ × Bool) → Type 0
AsksFor names agreed old new = (made : List (List ℕ × Bool)) × (new ≡ made ++ old)
    × All (λ m. m.1 ≡ true → (agreed ≡ true) × Contains names m.0) made
