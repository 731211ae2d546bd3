-- `read_name` reads the second parameter only if the first is empty or missing, and so does the definition.
use Rattle.mime_text.proofs.Words.{◌≡◌, ◌==◌, true, length, [], ℕ, List, Option, Some, Result, OnOk, unwrap_or, arith}
use Rattle.std.specs.Option.{option_or}
use Rattle.mime_text.proofs.LineSteps.{no_bytes}
use Rattle.mime_text.specs.Names.{unless_empty}
use Rattle.mime_text.proofs.header.name.read_name.Goals as goal

-- the second of two values counts if the first is empty or missing
second : {T E : Type 0} (result : Result T E) (o p : Option (List ℕ)) (first into : List ℕ) → first ≡ unwrap_or o []
    → (length first == 0) ≡ true → OnOk result (into ≡ unwrap_or p [])
    → OnOk result (unless_empty (Some into) ≡ option_or (unless_empty o) (unless_empty p))
second result o p first into e h is = grind (arith, no_bytes)

pub returns-then-is_empty-clause-name : goal.returns-then-is_empty-clause-name
returns-then-is_empty-clause-name c =
    grind (arith, second)
