-- `Sheet::send_full` leaves the answer as it is, whether it sends the gathered bytes or keeps them.
use Rattle.mail_answer.proofs.Words.{append-nil, arith}
use Rattle.mail_answer.proofs.OutputLaws.SheetLemmas.{joins_gathered}
use Rattle.mail_answer.proofs.output.sheet.Sheet.send_full.Goals as goal

pub returns-then-len-lt-FULL-clause-writes : goal.returns-then-len-lt-FULL-clause-writes
returns-then-len-lt-FULL-clause-writes = grind (arith, joins_gathered, append-nil)
