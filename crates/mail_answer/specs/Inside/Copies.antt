-- What copying a piece of an archive does to an answer.
use Rattle.std.specs.Prelude.{◌≡◌, ℕ, ◌+◌, List, ◌++◌, length, Option, Result, Ok, Err}
use Rattle.std.specs.Option.{option_map}
use Rattle.mail_answer.specs.Inside.Endings.{ending_of_bytes}
use Rattle.mail_answer.specs.Sheets.{IsIfKnown, AddsBytes, JoinsFront}
use Rattle.mail_answer.specs.declared.output.ending.Ending.{Ending}
use Rattle.mail_answer.specs.declared.fault.AnswerFaultKind.{AnswerFaultKind}
use Rattle.mail_answer.specs.declared.output.sheet.Sheet.{Sheet}

-- A front of what is to come was added to the answer, and the result is the ending with it; with a fault, a front of it
-- was sent. `count` bytes were to come, and `left` are left.
abbrev pub Copies : Option (List ℕ) → Option (List ℕ) → Sheet → Sheet → Option (List ℕ) → Option (List ℕ) → ℕ → ℕ
    → Ending → Result Ending AnswerFaultKind → Type 0
Copies taken taken' old new coming rest count left before (Ok ending) =
    (piece : List ℕ) × (coming ≡ option_map (λ bytes. piece ++ bytes) rest) × AddsBytes taken taken' old new piece
    × ((text : List ℕ) → before ≡ ending_of_bytes text → ending ≡ ending_of_bytes (text ++ piece))
    × (count ≡ length piece + left)
Copies taken taken' old new coming rest count left before (Err _) = (text : List ℕ) × IsIfKnown coming text
    × JoinsFront taken taken' old new text × (length text ≡ count)
