-- A query that is read is one of the grammar, and each query of the grammar is read: `pattern_exact` has both.
use Rattle.mail_query.proofs.MairixLaws.MairixExact.{pattern_exact}
use Rattle.mail_query.proofs.laws.a_pattern_is_read_as_the_grammar_says.Goals as goal

pub returns : goal.returns
returns c = λ lexicon pattern q plain utf8. pattern_exact lexicon plain pattern q utf8
