-- What is read of the first bytes of a file.
use Rattle.std.specs.Prelude.{◌≡◌, ℕ, List, ◌++◌, take, drop, Option, Some, IsSome}

-- If something is known of a source after some reads, they gave its first bytes, at most `most`, and left the others.
abbrev pub GivesFront : ℕ → Option (List ℕ) → Option (List ℕ) → List ℕ → List ℕ → Type 0
GivesFront most before after old new = IsSome after
    → (all : List ℕ) × (before ≡ Some all) × (new ≡ old ++ take most all) × (after ≡ Some (drop most all))
