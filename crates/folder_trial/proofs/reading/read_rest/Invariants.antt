-- No read has failed while the loop goes on.
use Rattle.std.proofs.Common.{◌≡◌}
use Rattle.folder_trial.proofs.reading.read_rest.Given as goal

abbrev pub invariant-loop : goal.invariant-loop
invariant-loop g l = let S = g.S.Source in S.failures l.source ≡ S.failures l.fn.source
