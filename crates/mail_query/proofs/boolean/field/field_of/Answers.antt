-- `field_of` finds the first row with the name, because a row with another name changes nothing.
use Rattle.mail_query.proofs.Words.{◌≡◌, ◌<◌, ◌+◌, ◌∙◌, ℕ, List, length, drop, drop-cons, add-one, get_or, false, bytes_eq, refl, Field}
use Rattle.std.specs.Borrow.{Bor}
use Rattle.mail_query.proofs.boolean.field.field_of.Invariants.{field_in}
use Rattle.mail_query.proofs.boolean.field.field_of.Goals as goal

passed : (name : List ℕ) (rows : List (Bor (List ℕ) × Field)) (i : ℕ) (row : Bor (List ℕ) × Field) → i < length rows
    → bytes_eq name ((get_or rows i row).0).now ≡ false
    → field_in name (drop (i + 1) rows) ≡ field_in name (drop i rows)
passed name rows i row within other = rw (add-one, drop-cons rows i row within, other) refl
