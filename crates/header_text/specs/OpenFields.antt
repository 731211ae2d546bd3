-- The fields of a header as lines are added, one at a time.
use Rattle.std.specs.Prelude.{ℕ, Bool, List, [], ◌∷◌, ◌++◌, is_some, if◌then◌else◌}
use Rattle.std.specs.Option.{option_to_list}
use Rattle.header_text.specs.Headers.{HeaderField, is_continuation, field_of_line}

-- the fields with more bytes at the end of the last body; without fields nothing changes
abbrev pub onto_last : List ℕ → List HeaderField → List HeaderField
onto_last more [] = []
onto_last more (f ∷ []) = record { name = f.name; body = f.body ++ more } ∷ []
onto_last more (f ∷ g ∷ fs) = f ∷ onto_last more (g ∷ fs)

-- Whether the last field may be continued after a line. After a continuation line it may if it could before; after any
-- other line it may if the line begins a field.
abbrev pub is_field_open_after : Bool → List ℕ → Bool
is_field_open_after open_before l = if is_continuation l then open_before else is_some (field_of_line l)

-- whether the last field may be continued after these lines
abbrev pub is_field_open_after_lines : Bool → List (List ℕ) → Bool
is_field_open_after_lines open_before [] = open_before
is_field_open_after_lines open_before (l ∷ ls) = is_field_open_after_lines (is_field_open_after open_before l) ls

-- the fields with one more line: a continuation goes to the last field if that may be continued, and otherwise it is
-- skipped
abbrev pub fields_with : Bool → List ℕ → List HeaderField → List HeaderField
fields_with open_before l fs =
    if is_continuation l then (if open_before then onto_last l fs else fs) else fs ++ option_to_list (field_of_line l)
