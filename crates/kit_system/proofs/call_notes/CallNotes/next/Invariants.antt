-- The next calls are those that the caller names.
use Rattle.kit_system.proofs.call_notes.CallNotes.next.Given as goal

-- these calls
abbrev pub ghost-of : goal.ghost-of
ghost-of g a = g.after
