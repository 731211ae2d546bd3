-- The turns so far were interrupted by a signal, and such a write appends nothing.
use Rattle.std.specs.Io.KnownBytes.{Keeps}
use Rattle.mairix_files.proofs.retried.write_retried.Given as goal

-- an interrupted write appends nothing
abbrev pub invariant-loop : goal.invariant-loop
invariant-loop g l = Keeps (g.W.Write.contents l.initial.writer) (g.W.Write.contents l.writer)
