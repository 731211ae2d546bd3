-- The state of a Header after the lines that were pushed.
use Rattle.std.specs.Prelude.{◌≡◌, ℕ, Bool, false, List, if◌then◌else◌}
use Rattle.header_text.specs.Headers.{HeaderField, header, fields_of}
use Rattle.header_text.specs.OpenFields.{is_field_open_after_lines}
use Rattle.header_text.specs.Stages.{has_empty, lines_size, stage_of}
use Rattle.header_text.specs.declared.header.Taken.{Taken}
use Rattle.header_text.specs.declared.header.Taken.TheVariants.{More, Ended}
use Rattle.header_text.specs.declared.header.Stage.{Stage}
use Rattle.header_text.specs.declared.header.Header.{Header}

-- what the last of these lines means for the header
abbrev pub taken_of : List (List ℕ) → Taken
taken_of ls = if has_empty ls then Ended else More

-- The state of a Header after these lines: its fields, the bytes of the lines that count, whether its last field may be
-- continued, and its stage.
pub record Holds (fields : List HeaderField) (size : ℕ) (in_field : Bool) (stage : Stage) (ls : List (List ℕ)) : Type 0
  where
    pub fields_are : fields ≡ fields_of ls
    pub size_is : size ≡ lines_size (header ls)
    pub in_field_is : in_field ≡ is_field_open_after_lines false (header ls)
    pub stage_is : stage ≡ stage_of ls

-- these are the lines that were pushed
abbrev pub HasLines : Header → List (List ℕ) → Type 0
HasLines h ls = Holds h.fields h.size h.in_field h.stage ls
