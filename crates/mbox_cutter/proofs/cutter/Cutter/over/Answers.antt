-- From a new cutter all events of its source come, if its bytes are known, because nothing was read yet.
use Rattle.std.proofs.Common.{arith}
use Rattle.mbox_cutter.proofs.KnownSteps.{known-beginning}
use Rattle.mbox_cutter.proofs.cutter.Cutter.over.Goals as goal

pub returns-clause-coming : goal.returns-clause-coming
returns-clause-coming g c = grind (arith, known-beginning)
