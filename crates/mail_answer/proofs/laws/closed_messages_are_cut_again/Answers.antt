-- Closed messages are cut again, because no other line starts a message.
use Rattle.mail_answer.proofs.OutputLaws.CutAgain.{cut-again}
use Rattle.mail_answer.proofs.laws.closed_messages_are_cut_again.Goals as goal

pub returns : goal.returns
returns c = cut-again
