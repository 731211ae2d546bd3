-- Patterns have a first fault exactly if the grammar gives no query, because the reader returns one or the other.
use Rattle.mail_query.proofs.MairixLaws.MairixExact.{faulty_or_asked}
use Rattle.mail_query.proofs.laws.what_is_no_pattern_shows_a_fault.Goals as goal

pub returns : goal.returns
returns c = λ lexicon patterns plain utf8. faulty_or_asked lexicon plain patterns utf8
