-- Delimiter lines and the open multiparts, as the code keeps them: the outermost first. Parts defines which lines
-- delimit and what a message's parts are; this file serves proofs that the code does the same.
use Rattle.std.specs.Prelude.{ℕ, zero, suc, Bool, true, false, ◌+◌, ◌≤◌, List, [], ◌∷◌, Option, Some, None}
use Rattle.std.specs.Prelude.{if◌then◌else◌, not, ◌&&◌, ◌||◌, ◌==◌, ◌≡◌, ◌++◌}
use Rattle.std.specs.List.{list_all}
use Rattle.contract_words.specs.Blanks.{is_blank}
use Rattle.mbox_cutter.specs.Separators.{without_break}
use Rattle.header_text.specs.EncodedWords.{after}
use Rattle.mime_text.specs.declared.parts.shape.DefaultType.{DefaultType}
use Rattle.mime_text.specs.declared.parts.frame.Frame.{Frame}
use Rattle.mime_text.specs.declared.parts.delimiter.Delimiter.{Delimiter}
use Rattle.mime_text.specs.declared.parts.delimiter.Delimiter.TheVariants.{Next, Closing}
use Rattle.mime_text.specs.declared.parts.nesting.Lead.{Lead}
use Rattle.mime_text.specs.declared.parts.nesting.Lead.TheVariants.{Nowhere, Piece, Epilogue}
use Rattle.mime_text.specs.Parts.{are_blanks}
use Rattle.mime_text.specs.Stream.{StreamPlace, Skip, InHeader, or_else}

-- the two dashes that begin a delimiter line
abbrev pub dash_dash : List ℕ
dash_dash = 0x2D ∷ 0x2D ∷ []

-- what follows the two dashes at the beginning of a line, without its line break; None if the line doesn't begin with
-- them
unfoldable pub dashes : List ℕ → Option (List ℕ)
dashes l = after dash_dash (without_break l)

-- what a line is, if this follows the boundary in it: the closing delimiter, another one, or none
abbrev pub kind_after : Option (List ℕ) → Option Delimiter
kind_after None = None
kind_after (Some rest) = if are_blanks (after dash_dash rest) then Some Closing else if are_blanks (Some rest)
    then Some Next else None

-- what a line is to the multipart of a boundary, if this text follows the line's two dashes
unfoldable pub delimiter_of : List ℕ → List ℕ → Option Delimiter
delimiter_of boundary text = kind_after (after boundary text)

-- By what follows one boundary in another: whether it begins with a byte that can't follow the first boundary in a
-- delimiter line. True if the second one doesn't begin with the first.
abbrev pub goes_on_apart : Option (List ℕ) → Bool
goes_on_apart None = true
goes_on_apart (Some []) = false
goes_on_apart (Some (b ∷ bs)) = not (is_blank b || (b == 0x2D))

-- whether a look at two boundaries finds that no line delimits the multiparts of both
abbrev pub are_boundaries_apart : List ℕ → List ℕ → Bool
are_boundaries_apart one other = goes_on_apart (after one other) && goes_on_apart (after other one)

-- whether the first boundary is apart from those of these multiparts
abbrev pub is_apart_from : List ℕ → List Frame → Bool
is_apart_from boundary fs = list_all (λ f. are_boundaries_apart boundary f.boundary) fs

-- the boundary of the innermost of these multiparts, which is the last, is apart from those of the others
abbrev pub IsInnermostApart : List Frame → Type 0
IsInnermostApart fs = (outer : List Frame) (f : Frame) → fs ≡ outer ++ f ∷ [] → is_apart_from f.boundary outer ≡ true

-- the place after a delimiter of the multipart f, which is in the multiparts `outer`; None if the line is no delimiter
abbrev pub place_after_delimiter : {A : Type 0} → Option Delimiter → Frame → List Frame
    → Option (List Frame × StreamPlace A)
place_after_delimiter None f outer = None
place_after_delimiter (Some Next) f outer = Some (f ∷ outer, InHeader false f.left f.default [])
place_after_delimiter (Some Closing) f outer = Some (outer, Skip)

-- the place after a line with this text after its two dashes: that of the outermost multipart that the line delimits;
-- None if it delimits none
abbrev pub scan : {A : Type 0} → List Frame → List Frame → List ℕ → Option (List Frame × StreamPlace A)
scan outer [] text = None
scan outer (f ∷ fs) text = or_else (place_after_delimiter (delimiter_of f.boundary text) f outer)
    (scan (f ∷ outer) fs text)

-- the multiparts with the innermost first, before those of `outer`
abbrev pub inside_out : List Frame → List Frame → List Frame
inside_out [] outer = outer
inside_out (f ∷ fs) outer = inside_out fs (f ∷ outer)

-- if `above` multiparts are around these, the depth of the pieces of each and the depths left below them are at most 16
-- together
abbrev pub AreNested : ℕ → List Frame → Type 0
AreNested above [] = Unit {0}
AreNested above (f ∷ fs) = (above + 1 + f.left ≤ 16) × AreNested (above + 1) fs

-- the open multiparts, the innermost first, and the number of depths left below the entity that is read
pub record Nest : Type 0 where
  pub frames : List Frame
  pub left : ℕ

-- the place to which a lead goes; None if the line delimits nothing
abbrev pub lead_to : {A : Type 0} → Lead → Nest → Option (List Frame × StreamPlace A)
lead_to Nowhere nest = None
lead_to (Piece d) nest = Some (nest.frames, InHeader false nest.left d [])
lead_to Epilogue nest = Some (nest.frames, Skip)

-- the open multiparts with one more, if a depth is left for its pieces
abbrev pub with_frame : ℕ → List ℕ → DefaultType → List Frame → List Frame
with_frame zero boundary d frames = frames
with_frame (suc left) boundary d frames = record { boundary = boundary; default = d; left = left } ∷ frames

-- one depth fewer is left below the entity; if none was left, nothing changes
abbrev pub below : Nest → Bool → Nest → Type 0
below old true new = (old.left ≡ suc new.left) × (new.frames ≡ old.frames)
below old false new = (old.left ≡ 0) × (new ≡ old)
