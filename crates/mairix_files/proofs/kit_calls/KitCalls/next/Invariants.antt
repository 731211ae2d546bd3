-- The next calls are those that the caller names.
use Rattle.mairix_files.proofs.kit_calls.KitCalls.next.Given as goal

-- these calls
abbrev pub ghost-of : goal.ghost-of
ghost-of g a = g.said
