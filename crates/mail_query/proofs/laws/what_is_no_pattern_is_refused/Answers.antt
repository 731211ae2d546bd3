-- Patterns are refused exactly if the grammar gives no query, because the reader returns each query that it gives.
use Rattle.mail_query.proofs.MairixLaws.MairixExact.{refused_exact}
use Rattle.mail_query.proofs.laws.what_is_no_pattern_is_refused.Goals as goal

pub returns : goal.returns
returns c = λ lexicon patterns plain utf8. refused_exact lexicon plain patterns utf8
