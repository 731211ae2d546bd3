-- The parts of a message, read one line at a time with a stack of boundaries. Parts defines what a message's parts are;
-- the law `one_line_at_a_time` says that these are the same, so the steps here needn't be believed.
use Rattle.std.specs.Prelude.{ℕ, zero, suc, Bool, true, false, cond, List, [], ◌∷◌, ◌++◌, Option, Some, None, flat_map}
use Rattle.mbox_cutter.specs.Lines.{is_empty}
use Rattle.header_text.specs.Headers.{HeaderField, fields_of}
use Rattle.mime_text.specs.declared.parts.shape.DefaultType.{DefaultType}
use Rattle.mime_text.specs.declared.parts.shape.DefaultType.TheVariants.{TextPlain}
use Rattle.mime_text.specs.declared.parts.shape.Shape.{Shape}
use Rattle.mime_text.specs.declared.parts.shape.Shape.TheVariants.{Multipart, Message, Text, Other}
use Rattle.mime_text.specs.declared.parts.frame.Frame.{Frame}
use Rattle.mime_text.specs.Parts.{Part, Entity, Counted, Leaf, is_closing, is_delimiter, parts}

-- what the next line belongs to: to nothing that gives texts; to the header of an entity, with the number of depths
-- left below it and the header's lines so far; or to a leaf, with what it gives for the lines that it still has
pub data StreamPlace (A : Type 0) : Type 0 where
  Skip : StreamPlace A
  InHeader : (counted : Bool) → (left : ℕ) → DefaultType → List (List ℕ) → StreamPlace A
  InLeaf : (List (List ℕ) → List A) → StreamPlace A

-- the first value, or the second one if there is no first
abbrev pub or_else : {A : Type 0} → Option A → Option A → Option A
or_else None o = o
or_else (Some x) o = Some x

-- the place after a line that delimits the innermost multipart f: after the multipart, or in its next piece; None if
-- the line doesn't delimit it
abbrev pub own_hit : {A : Type 0} → Bool → Bool → Frame → List Frame → Option (List Frame × StreamPlace A)
own_hit closing delimiter f outer = cond closing (Some (outer, Skip))
    (cond delimiter (Some (f ∷ outer, InHeader false f.left f.default [])) None)

-- the place after a line that delimits an open multipart, of several the outermost; None if it delimits none. The
-- innermost multipart comes first in the list.
abbrev pub place_after_hit : {A : Type 0} → List Frame → List ℕ → Option (List Frame × StreamPlace A)
place_after_hit [] l = None
place_after_hit (f ∷ outer) l = or_else (place_after_hit outer l)
    (own_hit (is_closing f.boundary l) (is_delimiter f.boundary l) f outer)

-- a header as a part, if it counts
abbrev pub counted_part : Bool → List (List ℕ) → List Part
counted_part true ls = Counted (fields_of ls) ∷ []
counted_part false ls = []

-- the parts that are known when a header has ended: the header, if it counts, and the entity
abbrev pub header_parts : Bool → List (List ℕ) → List Part
header_parts counted ls = counted_part counted ls ++ Entity (fields_of ls) ∷ []

-- `shape_of` says what an entity is, and `gives` what a part gives
module _ {A : Type 0} (shape_of : DefaultType → List HeaderField → Shape) (gives : Part → List A) where
  -- what an entity gives if it has these lines more and ends with them
  abbrev pub value : StreamPlace A → List (List ℕ) → List A
  value Skip ls = []
  value (InHeader counted left d lines) ls =
      flat_map gives (counted_part counted (lines ++ ls) ++ parts shape_of (suc left) d (lines ++ ls))
  value (InLeaf leaf) ls = leaf ls

  -- the place after a header's end, by what the header says
  abbrev pub after_header : Shape → List Frame → ℕ → List HeaderField → List Frame × StreamPlace A
  after_header (Multipart b d) fs zero fields = (fs, Skip)
  after_header (Multipart b d) fs (suc left) fields = (record { boundary = b; default = d; left = left } ∷ fs, Skip)
  after_header Message fs zero fields = (fs, Skip)
  after_header Message fs (suc left) fields = (fs, InHeader true left TextPlain [])
  after_header (Text is_html) fs left fields = (fs, InLeaf (λ body. gives (Leaf is_html fields body)))
  after_header Other fs left fields = (fs, Skip)

  -- what a line gives that delimits nothing, and the place after it
  abbrev pub inner_step : List Frame → StreamPlace A → List ℕ → List A × (List Frame × StreamPlace A)
  inner_step fs Skip l = ([], (fs, Skip))
  inner_step fs (InHeader counted left d lines) l = elim (is_empty l) [
    | true ↦ (
      flat_map gives (header_parts counted lines),
      after_header (shape_of d (fields_of lines)) fs left (fields_of lines),
    )
    | false ↦ ([], (fs, InHeader counted left d (lines ++ l ∷ [])))
  ]
  inner_step fs (InLeaf leaf) l = ([], (fs, InLeaf (λ ms. leaf (l ∷ ms))))

  -- what a line gives, and the place after it; a line that delimits ends the entity
  abbrev pub step_by : Option (List Frame × StreamPlace A) → List Frame → StreamPlace A → List ℕ → List A
      × (List Frame × StreamPlace A)
  step_by None fs place l = inner_step fs place l
  step_by (Some h) fs place l = (value place [], h)

  -- what the lines to come give from a place on
  abbrev pub values_given : List Frame → StreamPlace A → List (List ℕ) → List A
  values_given fs place [] = value place []
  values_given fs place (l ∷ ls) = let s = step_by (place_after_hit fs l) fs place l
      in s.0 ++ values_given s.1.0 s.1.1 ls
