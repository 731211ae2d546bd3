-- A table has only one answer, because its chosen numbers determine it.
use Rattle.mail_answer.proofs.OutputLaws.EveryAnswer.{one-answer}
use Rattle.mail_answer.proofs.laws.one_answer_of_a_table.Goals as goal

pub returns : goal.returns
returns c = one-answer
