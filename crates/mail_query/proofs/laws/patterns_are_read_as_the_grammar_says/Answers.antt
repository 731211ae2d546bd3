-- A query that is read is one of the grammar, and each query of the grammar is read: `patterns_exact` has both.
use Rattle.mail_query.proofs.MairixLaws.MairixExact.{patterns_exact}
use Rattle.mail_query.proofs.laws.patterns_are_read_as_the_grammar_says.Goals as goal

pub returns : goal.returns
returns c = λ lexicon patterns q plain utf8. patterns_exact lexicon plain patterns utf8 q
