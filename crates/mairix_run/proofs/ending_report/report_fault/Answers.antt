-- Without memory for the text of a fault, lack of memory is reported.
use Rattle.std.proofs.Common.{inr, refl}
use Rattle.run_faults.specs.declared.fault.Fault.TheVariants.{Memory}
use Rattle.mairix_run.proofs.ending_report.report_fault.Goals as goal

pub returns-in_default : goal.returns-in_default
returns-in_default g c = record {
  reported = (Memory, inr (refl, c.in_default.ensures.memory), c.status.ensures, c.print_line.ensures.taken);
}
