-- An mbox archive cut into its messages. A message starts at each separator that is the archive's first line or
-- directly follows an empty line. It ends at the next start or at the archive's end.
use Rattle.std.specs.Prelude.{ℕ, ◌+◌, Bool, true, not, ◌&&◌, false, if◌then◌else◌, List, [], ◌∷◌, length, map, Option}
use Rattle.std.specs.Prelude.{None, Some}
use Rattle.std.specs.List.{find}
use Rattle.std.specs.Option.{option_map, option_map_or}
use Rattle.mbox_cutter.specs.Lines.{lines, is_empty}
use Rattle.mbox_cutter.specs.Separators.{is_separator}

-- the number of bytes of the lines
abbrev pub total : List (List ℕ) → ℕ
total [] = 0
total (line ∷ ls) = length line + total ls

-- each line, with whether a message starts at it; the flag says whether one may start at the first line
abbrev pub marked_lines : Bool → List (List ℕ) → List (Bool × List ℕ)
marked_lines may_start [] = []
marked_lines may_start (line ∷ ls) = (may_start && is_separator line, line) ∷ marked_lines (is_empty line) ls

-- whether there is a line that isn't empty, and no message starts at the first such line
abbrev pub is_refused : List (Bool × List ℕ) → Bool
is_refused marks = option_map_or (λ mark. not mark.0) (find (λ mark. not (is_empty mark.1)) marks) false

-- the lines before the first start; and for each start its line, with the lines after it up to the next start
abbrev pub grouped_lines : List (Bool × List ℕ) → List (List ℕ) × List (List ℕ × List (List ℕ))
grouped_lines [] = ([], [])
grouped_lines (mark ∷ marks) =
    let groups = grouped_lines marks in if mark.0 then ([], (mark.1, groups.0) ∷ groups.1)
    else (mark.1 ∷ groups.0, groups.1)

-- a message: the offset where its span begins, its separator, and the lines of the span after the separator
pub record Message : Type 0 where
  pub offset : ℕ
  pub separator : List ℕ
  pub after : List (List ℕ)

-- the lines without an empty line at the end
abbrev pub without_closing : List (List ℕ) → List (List ℕ)
without_closing [] = []
without_closing (line ∷ []) = if is_empty line then [] else line ∷ []
without_closing (line ∷ next ∷ ls) = line ∷ without_closing (next ∷ ls)

-- the lines of a message's text: those of its span, without the separator and without an empty line at the end
abbrev pub text : Message → List (List ℕ)
text m = without_closing m.after

-- the number of bytes of a message's text
abbrev pub size : Message → ℕ
size m = total (text m)

-- the number of bytes of a message's span
abbrev pub span_length : Message → ℕ
span_length m = length m.separator + total m.after

-- the messages of these groups of lines, one after another, the first of them at the offset
abbrev pub messages_from : ℕ → List (List ℕ × List (List ℕ)) → List Message
messages_from offset [] = []
messages_from offset (group ∷ groups) =
    record { offset = offset; separator = group.0; after = group.1 } ∷ messages_from
    (offset + (length group.0 + total group.1)) groups

-- the messages of an archive, or None if it is refused
unfoldable pub messages : List ℕ → Option (List Message)
messages bytes =
    let marks = marked_lines true (lines bytes) in let groups = grouped_lines marks in
    if is_refused marks then None else Some (messages_from (total groups.0) groups.1)

-- the spans of an archive's messages, each as an offset and a length, or None if it is refused
abbrev pub spans_of : List ℕ → Option (List (ℕ × ℕ))
spans_of bytes = option_map (map (λ m. (m.offset, span_length m))) (messages bytes)
