-- What was read so far is after the old bytes, and no call has failed.
use Rattle.std.proofs.Common.{◌≡◌}
use Rattle.mairix_run.proofs.WholeFiles.{HasRead}
use Rattle.mairix_run.proofs.whole_file.read_rest.Given as goal

abbrev pub invariant-loop : goal.invariant-loop
invariant-loop g l =
    let S = g.S.Source in
    record {
      read : HasRead (S.rest l.fn.source) (S.rest l.source) l.fn.bytes.items l.bytes.items;
      count : S.failures l.source ≡ S.failures l.fn.source;
    }
