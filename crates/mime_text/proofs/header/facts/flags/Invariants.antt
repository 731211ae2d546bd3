-- Each flag says whether its letter was in a field so far. The fields that are left decide the rest.
use Rattle.mime_text.proofs.Words.{◌≡◌, ◌||◌, has_letter}
use Rattle.mime_text.proofs.header.facts.flags.Given as goal

-- a letter was in a field so far, or is in one of those that are left
abbrev pub invariant-loop-field : goal.invariant-loop-field
invariant-loop-field l =
    (goal.iterator-loop-field).can_next l.field-iterator ×
    (goal.iterator-loop-field).is_finite l.field-iterator ×
    (has_letter 0x52 l.fn.fields ≡ (l.flags.seen || has_letter 0x52 l.field-iterator)) ×
    (has_letter 0x41 l.fn.fields ≡ (l.flags.replied || has_letter 0x41 l.field-iterator)) ×
    (has_letter 0x46 l.fn.fields ≡ (l.flags.flagged || has_letter 0x46 l.field-iterator))
