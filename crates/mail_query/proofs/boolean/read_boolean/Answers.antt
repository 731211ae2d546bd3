-- What `read_boolean` returns is also what the grammar says, because the reader's queries and faults are those of the
-- grammar.
use Rattle.std.proofs.Common.{arith}
use Rattle.mail_query.proofs.AnswerLemmas.{if_ok, if_err}
use Rattle.mail_query.proofs.BooleanLaws.BooleanPlaces.{answer_faulty}
use Rattle.mail_query.proofs.BooleanLaws.BooleanTrees.{answer_read}
use Rattle.mail_query.proofs.boolean.read_boolean.Goals as goal

pub returns-clause-read : goal.returns-clause-read
returns-clause-read c = grind (arith, if_ok, answer_read)

pub returns-clause-fault : goal.returns-clause-fault
returns-clause-fault c = grind (arith, if_err, answer_faulty)
