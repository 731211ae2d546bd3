-- `Sheet::send` sends the gathered bytes, piece by piece, and counts them.
use Rattle.mail_answer.proofs.Words.{arith}
use Rattle.mail_answer.proofs.OutputLaws.SheetLemmas.{appends_step, counted_step, front_went}
use Rattle.mail_answer.proofs.output.sheet.Sheet.send.Goals as goal

pub loop-at-preserved : goal.loop-at-preserved
loop-at-preserved = grind (arith, appends_step, counted_step)

pub returns-in_default-clause-writes : goal.returns-in_default-clause-writes
returns-in_default-clause-writes = grind (arith, front_went)
