-- Lists that only grow at their end.
use Rattle.std.specs.Prelude.{◌≡◌, List, ◌++◌}

-- the whole begins with the front
abbrev pub IsFront : {A : Type 0} → List A → List A → Type 0
IsFront {A} front whole = (rest : List A) × (whole ≡ front ++ rest)
