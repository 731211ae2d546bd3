-- A fault that is reported is the first fault, and the first fault is reported: `fault_exact` has both.
use Rattle.mail_query.proofs.MairixLaws.MairixExact.{fault_exact}
use Rattle.mail_query.proofs.laws.patterns_are_refused_with_their_first_fault.Goals as goal

pub returns : goal.returns
returns c = λ lexicon patterns f plain utf8. fault_exact lexicon plain patterns utf8 f
