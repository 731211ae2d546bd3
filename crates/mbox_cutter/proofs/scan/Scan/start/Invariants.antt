-- Only empty lines were passed. The loop ends because each line brings the scan nearer to its limit.
use Rattle.mbox_cutter.proofs.Words.{◌-◌}
use Rattle.mbox_cutter.proofs.ScanSteps.{Skipped}
use Rattle.mbox_cutter.proofs.scan.Scan.start.Given as goal

abbrev pub invariant-empties : goal.invariant-empties
invariant-empties g l = Skipped g.S.Source l.fn.self l.self

abbrev pub decreases-empties : goal.decreases-empties
decreases-empties g l = l.self.most - l.self.offset
