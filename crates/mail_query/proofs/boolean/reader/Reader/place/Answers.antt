-- `Reader::place` adds an operand as the definition does, because each `not` before it negates it once more.
use Rattle.mail_query.proofs.Words.{arith}
use Rattle.mail_query.proofs.BooleanLaws.StackLemmas.{placed-not}
use Rattle.mail_query.proofs.boolean.reader.Reader.place.Goals as goal

pub nots-preserved : goal.nots-preserved
nots-preserved c = grind (arith, placed-not)
