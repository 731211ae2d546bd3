-- No word of mail has a byte with a meaning in patterns, because no character of a word is such a byte.
use Rattle.mail_query.proofs.MairixLaws.PlainWords.{mail_plain}
use Rattle.mail_query.proofs.laws.words_of_mail_have_no_signs.Goals as goal

pub returns : goal.returns
returns c = mail_plain
