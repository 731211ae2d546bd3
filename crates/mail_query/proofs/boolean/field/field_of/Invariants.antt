-- No row so far has this name, so the field is that of the first row left that has it.
use Rattle.mail_query.proofs.Words.{◌≡◌, ℕ, List, [], ◌∷◌, drop, bytes_eq, if◌then◌else◌, Option, None, Some, Field}
use Rattle.std.specs.Borrow.{Bor}
use Rattle.mail_query.specs.BooleanTerms.{field_of}
use Rattle.mail_query.proofs.boolean.field.field_of.Given as goal

-- the field of the first row with this name
abbrev pub field_in : List ℕ → List (Bor (List ℕ) × Field) → Option Field
field_in name [] = None
field_in name (row ∷ rows) = if bytes_eq name (row.0).now then Some row.1 else field_in name rows

abbrev pub invariant-loop-known : goal.invariant-loop-known
invariant-loop-known l = field_in l.name (drop l.known-index l.known-items) ≡ field_of l.name
