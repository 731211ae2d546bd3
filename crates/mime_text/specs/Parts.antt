-- The parts of a message (RFC 2046), by splitting at the outermost boundary first.
use Rattle.std.specs.Prelude.{ℕ, zero, suc, Bool, true, false, List, [], ◌∷◌, ◌++◌, Option, Some, None, flat_map}
use Rattle.std.specs.Prelude.{if◌then◌else◌}
use Rattle.std.specs.List.{list_all}
use Rattle.mbox_cutter.specs.Lines.{is_empty}
use Rattle.mbox_cutter.specs.Separators.{without_break}
use Rattle.contract_words.specs.Blanks.{is_blank}
use Rattle.header_text.specs.EncodedWords.{after}
use Rattle.header_text.specs.Headers.{HeaderField, fields_of}
use Rattle.mime_text.specs.declared.parts.shape.DefaultType.{DefaultType}
use Rattle.mime_text.specs.declared.parts.shape.DefaultType.TheVariants.{TextPlain}
use Rattle.mime_text.specs.declared.parts.shape.Shape.{Shape}
use Rattle.mime_text.specs.declared.parts.shape.Shape.TheVariants.{Multipart, Message, Text, Other}

-- what gives texts: an entity, by the fields of its header; a header that counts for the whole message; or a leaf
pub data Part : Type 0 where
  Entity : List HeaderField → Part
  Counted : List HeaderField → Part
  Leaf : (is_html : Bool) → List HeaderField → (body : List (List ℕ)) → Part

-- the lines after the first empty line
abbrev pub body_lines : List (List ℕ) → List (List ℕ)
body_lines [] = []
body_lines (l ∷ ls) = elim (is_empty l) [ true ↦ ls | false ↦ body_lines ls ]

-- whether these bytes are spaces and tabs only, or no bytes at all; false for None
abbrev pub are_blanks : Option (List ℕ) → Bool
are_blanks None = false
are_blanks (Some bytes) = list_all is_blank bytes

-- whether a line is two dashes and the boundary, and then only blanks before the line break (RFC 2046, 5.1.1)
unfoldable pub is_delimiter : List ℕ → List ℕ → Bool
is_delimiter boundary l = are_blanks (after (0x2D ∷ 0x2D ∷ boundary) (without_break l))

-- whether it is such a line with two dashes after the boundary
abbrev pub is_closing : List ℕ → List ℕ → Bool
is_closing boundary l = is_delimiter (boundary ++ 0x2D ∷ 0x2D ∷ []) l

-- the lines before the first delimiter, and the pieces after each delimiter, up to the closing one or the end
abbrev pub preamble_and_pieces : List ℕ → List (List ℕ) → List (List ℕ) × List (List (List ℕ))
preamble_and_pieces boundary [] = ([], [])
preamble_and_pieces boundary (l ∷ ls) = elim (is_closing boundary l) [
  | true ↦ ([], [])
  | false ↦ let rest = preamble_and_pieces boundary ls in
      if is_delimiter boundary l then ([], rest.0 ∷ rest.1) else (l ∷ rest.0, rest.1)
]

-- the pieces between the delimiters of a multipart
abbrev pub multipart_pieces : List ℕ → List (List ℕ) → List (List (List ℕ))
multipart_pieces boundary ls = (preamble_and_pieces boundary ls).1

-- whether a depth is left
abbrev pub is_left : ℕ → Bool
is_left zero = false
is_left (suc n) = true

-- `shape_of` says what an entity is, by the fields of its header and by the type that it has if it names none
module _ (shape_of : DefaultType → List HeaderField → Shape) where
  -- the parts inside an entity of this shape; `inner` gives those of an entity inside it, and the Bool says whether a
  -- depth is left for them
  abbrev pub parts_by : (DefaultType → List (List ℕ) → List Part) → Bool → Shape → List (List ℕ) → List Part
  parts_by inner deep (Multipart boundary default) ls =
      flat_map (inner default) (multipart_pieces boundary (body_lines ls))
  parts_by inner true Message ls = Counted (fields_of (body_lines ls)) ∷ inner TextPlain (body_lines ls)
  parts_by inner false Message ls = []
  parts_by inner deep (Text is_html) ls = Leaf is_html (fields_of ls) (body_lines ls) ∷ []
  parts_by inner deep Other ls = []

  -- the parts of an entity if this many depths are left, its own included: first the entity itself, of any type
  abbrev pub parts : ℕ → DefaultType → List (List ℕ) → List Part
  parts zero default ls = []
  parts (suc left) default ls = Entity (fields_of ls) ∷ parts_by (λ d ks. parts left d ks) (is_left left)
      (shape_of default (fields_of ls)) ls

  -- the parts of a message: its own header, and then those of its body down to the depth of 16
  abbrev pub parts_of_message : List (List ℕ) → List Part
  parts_of_message ls = Counted (fields_of ls) ∷ parts 17 TextPlain ls
