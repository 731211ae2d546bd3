-- Every table has an answer, because it has threads, and texts that may be unknown.
use Rattle.mail_answer.proofs.OutputLaws.EveryAnswer.{some-answer}
use Rattle.mail_answer.proofs.laws.every_table_answers.Goals as goal

pub returns : goal.returns
returns c = some-answer
