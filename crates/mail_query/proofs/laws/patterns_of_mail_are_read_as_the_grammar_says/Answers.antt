-- The law for all lexicons holds of mail, because no word of mail has a byte with a meaning in patterns.
use Rattle.mail_query.proofs.MairixLaws.MairixExact.{patterns_of_mail}
use Rattle.mail_query.proofs.laws.patterns_of_mail_are_read_as_the_grammar_says.Goals as goal

pub returns : goal.returns
returns c = patterns_of_mail
