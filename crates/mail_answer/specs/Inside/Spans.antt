-- Closed spans that are added to an answer.
use Rattle.std.specs.Prelude.{◌≡◌, ℕ, List, Option, Some, length, Result}
use Rattle.std.specs.List.{flat_map}
use Rattle.mail_index.specs.Tables.{Table}
use Rattle.mail_answer.specs.Shapes.{closed_text, AreSpansOf}
use Rattle.mail_answer.specs.Sheets.{WritesText}
use Rattle.mail_answer.specs.declared.output.sheet.Sheet.{Sheet}

-- A span of this many bytes, closed, was added to the answer; with a fault, a front of it.
abbrev pub WritesSpan : {T E : Type 0} → Option (List ℕ) → Option (List ℕ) → Sheet → Sheet → ℕ → Result T E → Type 0
WritesSpan taken taken' old new count result = (bytes : List ℕ) × (length bytes ≡ count)
    × WritesText taken taken' old new (Some (closed_text bytes)) result

-- The spans of the messages with these numbers, each closed, were added to the answer; with a fault, a front of them.
abbrev pub WritesSpans : {T E : Type 0} → Option (List ℕ) → Option (List ℕ) → Sheet → Sheet → Table → List ℕ
    → Result T E → Type 0
WritesSpans taken taken' old new t numbers result = (spans : List (List ℕ)) × AreSpansOf t numbers spans
    × WritesText taken taken' old new (Some (flat_map closed_text spans)) result
