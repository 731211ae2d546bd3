-- `without_first` takes one sign off the front, because a sign below 128 is one byte of the text.
use Rattle.mail_query.proofs.Words.{arith, strip_prefix_char}
use Rattle.mail_query.proofs.PieceLemmas.{first_answer}
use Rattle.mail_query.proofs.pieces.without_first.Goals as goal

pub returns : goal.returns
returns c = grind (arith, first_answer, strip_prefix_char)
