-- `Ending::new` is the ending of no bytes.
use Rattle.mail_answer.proofs.Words.{sym}
use Rattle.mail_answer.proofs.OutputLaws.Endings.{no_lines}
use Rattle.mail_answer.proofs.output.ending.Ending.new.Goals as goal

pub returns : goal.returns
returns c = sym no_lines
