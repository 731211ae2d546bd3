-- What was read so far is after the old bytes, and no call has failed. The loop ends because each turn reads at least
-- one of the bytes that may still be read.
use Rattle.std.proofs.Common.{◌≡◌, ◌<◌, ◌+◌, length}
use Rattle.mairix_run.proofs.FileFronts.{HasReadFront}
use Rattle.mairix_run.proofs.file_front.read_front.Given as goal

abbrev pub invariant-loop-left : goal.invariant-loop-left
invariant-loop-left g l =
    let S = g.S.Source in
    record {
      read : HasReadFront l.fn.most l.left (S.rest l.fn.source) (S.rest l.source) l.fn.bytes.items l.bytes.items;
      few : length l.bytes.items + l.left ≡ length l.fn.bytes.items + l.fn.most;
      count : S.failures l.source ≡ S.failures l.fn.source;
      room : 0 < length l.piece;
    }

abbrev pub decreases-loop-left : goal.decreases-loop-left
decreases-loop-left g l = l.left
