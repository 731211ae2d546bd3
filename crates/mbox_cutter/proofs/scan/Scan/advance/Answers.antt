-- `Scan::advance` takes a step by its phase. After the end it stays there.
use Rattle.std.proofs.Common.{arith}
use Rattle.mbox_cutter.proofs.ScanSteps.{ended-steps}
use Rattle.mbox_cutter.proofs.scan.Scan.advance.Goals as goal

pub returns-in-Ended-clause-steps : goal.returns-in-Ended-clause-steps
returns-in-Ended-clause-steps g c = grind (arith, ended-steps)
