-- `AnswerWriter::write` sends the whole answer, because it sends the rest of the sheet at the end.
use Rattle.mail_answer.proofs.Words.{arith}
use Rattle.mail_answer.proofs.output.answer_writer.AnswerWriter.write.Goals as goal

pub returns-in-Err-clause-messages : goal.returns-in-Err-clause-messages
returns-in-Err-clause-messages = grind arith
