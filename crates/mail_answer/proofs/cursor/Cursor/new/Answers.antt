-- `Cursor::new` begins with the chosen numbers, because its walk gives exactly the messages that satisfy the query.
use Rattle.mail_answer.proofs.Words.{arith}
use Rattle.mail_answer.proofs.CursorLaws.Begins.{tells_chosen}
use Rattle.mail_answer.proofs.cursor.Cursor.new.Goals as goal

pub returns-clause-numbers : goal.returns-clause-numbers
returns-clause-numbers = grind (arith, tells_chosen)
