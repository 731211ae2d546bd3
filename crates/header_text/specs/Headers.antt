-- The fields of a header (RFC 5322, 2.2), found in its lines.
use Rattle.std.specs.Prelude.{ℕ, ◌+◌, ◌-◌, Bool, true, false, not, ◌&&◌, ◌==◌, nat_le, List, [], ◌∷◌, ◌++◌, length}
use Rattle.std.specs.Prelude.{Option, Some, None}
use Rattle.header_text.specs.Blanks.{split_while, after_blanks}
use Rattle.contract_words.specs.Blanks.{is_blank}
use Rattle.mbox_cutter.specs.Lines.{is_empty}

-- a field's name, and all bytes after its colon, with those of its continuation lines
pub record HeaderField : Type 0 where
  pub name : List ℕ
  pub body : List ℕ

-- the most bytes of lines that a header keeps
abbrev pub most_in_header : ℕ
most_in_header = 262144

-- the lines before the first empty line
abbrev pub lines_before_empty : List (List ℕ) → List (List ℕ)
lines_before_empty [] = []
lines_before_empty (l ∷ ls) = elim (is_empty l) [ true ↦ [] | false ↦ l ∷ lines_before_empty ls ]

-- the longest front of the lines that has at most `room` bytes
abbrev pub lines_within : ℕ → List (List ℕ) → List (List ℕ)
lines_within room [] = []
lines_within room (l ∷ ls) = elim (nat_le (length l) room) [ true ↦ l ∷ lines_within (room - length l) ls | false ↦ [] ]

-- the lines of a header that count: those before the first empty line, up to 262,144 bytes
abbrev pub header : List (List ℕ) → List (List ℕ)
header ls = lines_within most_in_header (lines_before_empty ls)

-- whether a line is a continuation: it begins with a space or a tab
abbrev pub is_continuation : List ℕ → Bool
is_continuation [] = false
is_continuation (b ∷ bs) = is_blank b

-- whether a byte is allowed in the name of a field: 33 to 126, but no colon
abbrev pub is_field_name_byte : ℕ → Bool
is_field_name_byte b = nat_le 33 b && nat_le b 126 && not (b == 0x3A)

-- the field of a name and what follows it, if the name isn't empty and a colon comes first after it
abbrev pub field_of_name : List ℕ → List ℕ → Option HeaderField
field_of_name (b ∷ name) (c ∷ body) = elim (c == 0x3A)
    [ true ↦ Some (record { name = b ∷ name; body = body }) | false ↦ None ]
field_of_name name rest = None

-- the field that a line begins: one or more bytes of a name, then any spaces and tabs, then a colon
abbrev pub field_of_line : List ℕ → Option HeaderField
field_of_line l = let parts = split_while is_field_name_byte l in field_of_name parts.0 (after_blanks parts.1)

-- the fields from a line on: the field that the line begins, if it does, with the bytes of the continuation lines after
-- it, and then the later fields; without a field these bytes are skipped
abbrev pub with_continuations : Option HeaderField → List ℕ → List HeaderField → List HeaderField
with_continuations None more later = later
with_continuations (Some f) more later = record { name = f.name; body = f.body ++ more } ∷ later

-- the bytes of the continuation lines at the front, and the fields after them
abbrev pub continued_and_fields : List (List ℕ) → List ℕ × List HeaderField
continued_and_fields [] = ([], [])
continued_and_fields (l ∷ ls) = let rest = continued_and_fields ls in
    elim (is_continuation l) [
      | true ↦ (l ++ rest.0, rest.1)
      | false ↦
          ([], with_continuations (field_of_line l) rest.0 rest.1)
    ]

-- the fields of these lines
abbrev pub fields_in : List (List ℕ) → List HeaderField
fields_in ls = (continued_and_fields ls).1

-- the fields of the header that these lines begin
unfoldable pub fields_of : List (List ℕ) → List HeaderField
fields_of ls = fields_in (header ls)

-- the number of bytes of all names and bodies
abbrev pub fields_size : List HeaderField → ℕ
fields_size [] = 0
fields_size (f ∷ fs) = length f.name + length f.body + fields_size fs
