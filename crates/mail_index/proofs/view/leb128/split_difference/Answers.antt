-- `split_difference` reads one or two bytes as `split_leb128` does, by the form of such numbers.
use Rattle.mail_index.proofs.Words.{arith}
use Rattle.mail_index.proofs.FileLaws.LebLemmas.{leb-two}
use Rattle.mail_index.proofs.view.leb128.split_difference.Goals as goal

pub returns-then-contains-clause-some : goal.returns-then-contains-clause-some
returns-then-contains-clause-some c = grind (arith, leb-two)

pub returns-then-first-lt128-clause-some : goal.returns-then-first-lt128-clause-some
returns-then-first-lt128-clause-some c = grind arith
