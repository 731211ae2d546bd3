-- What was read so far is at the front of the slice, and no call has failed. The loop ends because each turn reads at
-- least one of the bytes for which there is still room.
use Rattle.std.proofs.Common.{◌≡◌, ◌≤◌, ◌-◌, length}
use Rattle.mairix_run.proofs.WholeFiles.{HasFilled}
use Rattle.mairix_run.proofs.whole_file.fill.Given as goal

abbrev pub invariant-loop-at : goal.invariant-loop-at
invariant-loop-at g l =
    let S = g.S.Source in
    record {
      read : HasFilled (S.rest l.fn.source) (S.rest l.source) l.at l.into;
      within : l.at ≤ length l.into;
      room : length l.into ≡ length l.fn.into;
      count : S.failures l.source ≡ S.failures l.fn.source;
    }

abbrev pub decreases-loop-at : goal.decreases-loop-at
decreases-loop-at g l = length l.into - l.at
