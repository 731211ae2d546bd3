-- How the tables of worked rows are written.
use Rattle.mime_text.proofs.Words.{◌≡◌, List, map}

-- each row has an input, and what is read from it
abbrev pub Each : {A B : Type 0} → (A → B) → List (A × B) → Type 0
Each read rows = map (λ row. read row.0) rows ≡ map (λ row. row.1) rows
