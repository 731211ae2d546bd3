-- The boundary is apart from those so far, so those that are left decide. The loop ends because each turn leaves fewer.
use Rattle.mime_text.proofs.Words.{◌≡◌, length}
use Rattle.mime_text.specs.Frames.{is_apart_from}
use Rattle.mime_text.proofs.parts.nesting.is_apart_from.Given as goal

abbrev pub invariant-loop-frame : goal.invariant-loop-frame
invariant-loop-frame l = is_apart_from l.boundary l.rest ≡ is_apart_from l.fn.boundary l.fn.frames

abbrev pub decreases-loop-frame : goal.decreases-loop-frame
decreases-loop-frame l = length l.rest
