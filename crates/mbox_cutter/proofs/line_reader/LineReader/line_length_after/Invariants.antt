-- The reads so far only added unread bytes. The loop ends because each read fills some room or finds the end.
use Rattle.mbox_cutter.proofs.Words.{false, ◌+◌, ◌-◌, ◌*◌, length, cond, ReadsOn}
use Rattle.mbox_cutter.specs.declared.buffer.TheConstants.{ROOM}
use Rattle.mbox_cutter.proofs.line_reader.LineReader.line_length_after.Given as goal

abbrev pub invariant-more : goal.invariant-more
invariant-more g l = ReadsOn g.S.Source false l.fn.self l.self

abbrev pub decreases-more : goal.decreases-more
decreases-more g l = 2 * (ROOM - length l.self.unread) + cond l.self.ended 0 1
