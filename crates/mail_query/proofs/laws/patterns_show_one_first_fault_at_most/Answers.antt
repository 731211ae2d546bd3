-- Two first faults are the same, because the reader returns each of them and has only one result.
use Rattle.mail_query.proofs.MairixLaws.MairixExact.{one_fault}
use Rattle.mail_query.proofs.laws.patterns_show_one_first_fault_at_most.Goals as goal

pub returns : goal.returns
returns c = λ lexicon patterns f g plain utf8. one_fault lexicon plain patterns utf8 f g
