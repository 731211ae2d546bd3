-- `without_last` takes one sign off the end, because a sign below 128 is one byte of the text.
use Rattle.mail_query.proofs.Words.{arith, strip_suffix_char}
use Rattle.mail_query.proofs.PieceLemmas.{last_answer}
use Rattle.mail_query.proofs.pieces.without_last.Goals as goal

pub returns : goal.returns
returns c = grind (arith, last_answer, strip_suffix_char)
