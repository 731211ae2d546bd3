-- `size_of` scales the number before a final `k` or `m`, because the definition takes either case of the letter.
use Rattle.mail_query.proofs.Words.{arith, nat_tests}
use Rattle.mail_query.proofs.MairixLaws.SizeLemmas.{size_of-letter}
use Rattle.mail_query.proofs.size.size_of.Goals as goal

pub returns-in-109 : goal.returns-in-109
returns-in-109 c = grind (arith, nat_tests, size_of-letter)

pub returns-in-107 : goal.returns-in-107
returns-in-107 c = grind (arith, nat_tests, size_of-letter)
