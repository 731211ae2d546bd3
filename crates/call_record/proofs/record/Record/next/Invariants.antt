-- The next record is the one that the caller names.
use Rattle.call_record.proofs.record.Record.next.Given as goal

-- what it supposes, and its calls
abbrev pub ghost-of : goal.ghost-of
ghost-of g a = g.said
