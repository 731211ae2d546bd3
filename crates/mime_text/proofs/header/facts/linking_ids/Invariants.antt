-- The ids so far, with those of the fields left, are all ids, and there is room for them.
use Rattle.mime_text.proofs.Words.{fields_size, most_in_header, ids_size, ◌≡◌, ◌+◌, ◌≤◌, All, ◌++◌, ids_of_fields, IsSizedId}
use Rattle.mime_text.proofs.header.facts.linking_ids.Given as goal

-- the ids so far, and those of the fields that are left; there is room for both
abbrev pub invariant-loop-field : goal.invariant-loop-field
invariant-loop-field l =
    (goal.iterator-loop-field).can_next l.field-iterator ×
    (goal.iterator-loop-field).is_finite l.field-iterator ×
    (ids_size l.ids + fields_size l.field-iterator ≤ most_in_header) ×
    (ids_of_fields l.fn.fields ≡ l.ids ++ ids_of_fields l.field-iterator) ×
    All IsSizedId l.ids
