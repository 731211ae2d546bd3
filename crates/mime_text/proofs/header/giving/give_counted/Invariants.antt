-- The texts of the fields so far were given, and those of the fields left are to come.
use Rattle.mime_text.proofs.Words.{◌≤◌, fields_size, most_in_header, texts_of_fields, Gave}
use Rattle.mime_text.proofs.header.giving.give_counted.Given as goal

-- the texts of the fields so far have been given
abbrev pub invariant-loop-field : goal.invariant-loop-field
invariant-loop-field g l =
    (goal.iterator-loop-field g).can_next l.field-iterator ×
    (goal.iterator-loop-field g).is_finite l.field-iterator ×
    (fields_size l.field-iterator ≤ most_in_header) ×
    Gave g.S.TextSink.takes g.S.TextSink.refuses (λ _. texts_of_fields l.fn.fields)
    (λ _. texts_of_fields l.field-iterator) l.initial.sink l.sink
