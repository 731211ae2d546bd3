-- After a fault, `HeldLine::take` has given what was given before the fault, because it only clears its buffer then.
use Rattle.mime_text.proofs.leaf.held_line.HeldLine.take.Goals as goal

pub returns-in-Err : goal.returns-in-Err
returns-in-Err g c = rw (← c.self.view_is) c.in-Err.ensures.hands
