-- If a line can't be given, `take_lines` has given the texts before it, because it returns the fault of `give_lines`.
use Rattle.mime_text.proofs.Handing.{fault-up}
use Rattle.mime_text.proofs.leaf.held_line.take_lines.Goals as goal

pub returns-in_err-left-clause-hands : goal.returns-in_err-left-clause-hands
returns-in_err-left-clause-hands g c = rw
    (fault-up c.from_residual.result _ c.from_residual.ensures.1, ← c.deref.ensures.value) c.in_err-left.ensures.broke
