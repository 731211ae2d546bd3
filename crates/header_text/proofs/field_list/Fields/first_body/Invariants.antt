-- No field so far has the name, so those that are left decide.
use Rattle.header_text.proofs.Words.{◌≡◌, ◌≤◌, fields_size}
use Rattle.header_text.specs.Names.{first_body}
use Rattle.header_text.proofs.field_list.Fields.first_body.Given as goal

-- no field so far had the name, so the result depends on those that are left
abbrev pub invariant-loop-field : goal.invariant-loop-field
invariant-loop-field l =
    (goal.iterator-loop-field).can_next l.field-iterator ×
    (goal.iterator-loop-field).is_finite l.field-iterator ×
    (fields_size l.field-iterator ≤ fields_size l.fn.self) ×
    (first_body l.name l.field-iterator ≡ first_body l.name l.fn.self)
