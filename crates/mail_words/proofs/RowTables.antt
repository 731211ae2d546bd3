-- Tables of worked examples.
use Rattle.mail_words.proofs.Imports.{◌≡◌, List}
use Rattle.std.proofs.Common.{map}

-- each row has an input and its result
abbrev pub Each : {A B : Type 0} → (A → B) → List (A × B) → Type 0
Each read rows = map (λ row. read row.0) rows ≡ map (λ row. row.1) rows
