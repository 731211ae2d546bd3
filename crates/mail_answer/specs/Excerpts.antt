-- The excerpt of a message.
use Rattle.std.specs.Prelude.{ℕ, ◌||◌, ◌==◌, nat_lt, List, [], ◌∷◌, ◌++◌, map, drop, unwrap_or, if◌then◌else◌, codes}
use Rattle.std.specs.List.{flat_map}
use Rattle.mbox_cutter.specs.Lines.{lines}
use Rattle.header_text.specs.Headers.{HeaderField, fields_of}
use Rattle.header_text.specs.Names.{first_body}
use Rattle.header_text.specs.Unfolding.{unfolded_body}
use Rattle.header_text.specs.EncodedWords.{decoded_value}

-- the body of the first field with this name, empty if there is none
abbrev pub body_of : List ℕ → List HeaderField → List ℕ
body_of name fields = unwrap_or (first_body name fields) []

-- A space for each character below U+0020, and for U+007F. In UTF-8 each of them is one byte, which no other character
-- has.
abbrev pub shown_byte : ℕ → ℕ
shown_byte b = if nat_lt b 32 || b == 127 then 32 else b

-- the text with a space for each control character
abbrev pub without_controls : List ℕ → List ℕ
without_controls text = map shown_byte text

-- a text after a space, or nothing if it is empty
abbrev pub text_after_space : List ℕ → List ℕ
text_after_space [] = []
text_after_space (b ∷ bs) = 32 ∷ b ∷ bs

-- the line of a field: the name, a colon, the value, LF
abbrev pub field_line : List HeaderField → List ℕ → List ℕ
field_line fields name = name ++ 58 ∷ text_after_space
    (without_controls (decoded_value (unfolded_body (body_of name fields)))) ++ 10 ∷ []

-- the names of the fields in an excerpt
abbrev pub excerpt_names : List (List ℕ)
excerpt_names = codes "To" ∷ codes "Cc" ∷ codes "From" ∷ codes "Subject" ∷ codes "Date" ∷ []

-- the lines of the five fields
abbrev pub excerpt_lines : List HeaderField → List ℕ
excerpt_lines fields = flat_map (field_line fields) excerpt_names

-- The path and LF, and then a line for each of the five fields. The header is in the lines of the span after its first.
unfoldable pub excerpt : List ℕ → List ℕ → List ℕ
excerpt path bytes = path ++ 10 ∷ excerpt_lines (fields_of (drop 1 (lines bytes)))
