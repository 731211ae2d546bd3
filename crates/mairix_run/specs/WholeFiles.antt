-- What is read of a file.
use Rattle.std.specs.Prelude.{◌≡◌, ℕ, List, ◌++◌, Option, Some, IsSome}

-- If something is known of a source after some reads, they gave all its rest: `new` is `old` and then this rest.
abbrev pub GivesRest : Option (List ℕ) → Option (List ℕ) → List ℕ → List ℕ → Type 0
GivesRest before after old new = IsSome after → (rest : List ℕ) × (before ≡ Some rest) × (new ≡ old ++ rest)
