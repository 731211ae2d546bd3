-- A query that is read is one of the grammar, and each query of the grammar is read, token by token.
use Rattle.mail_query.proofs.BooleanLaws.BooleanComplete.{reading_answered}
use Rattle.mail_query.proofs.BooleanLaws.BooleanTrees.{answer_read}
use Rattle.mail_query.proofs.laws.the_answer_is_what_is_read.Goals as goal

pub returns : goal.returns
returns c = λ lexicon ts q. (answer_read lexicon ts q, reading_answered lexicon ts q)
