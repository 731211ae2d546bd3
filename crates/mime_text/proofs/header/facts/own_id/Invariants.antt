-- No Message-ID field so far has an id, so the fields that are left decide.
use Rattle.mime_text.proofs.Words.{fields_size, most_in_header, ◌≡◌, ◌≤◌, own_id_of}
use Rattle.mime_text.proofs.header.facts.own_id.Given as goal

-- no field so far had an id, so the fields that are left decide
abbrev pub invariant-loop-field : goal.invariant-loop-field
invariant-loop-field l =
    (goal.iterator-loop-field).can_next l.field-iterator ×
    (goal.iterator-loop-field).is_finite l.field-iterator ×
    (fields_size l.field-iterator ≤ most_in_header) ×
    (own_id_of l.fn.fields ≡ own_id_of l.field-iterator)
