-- `fold_ascii` gives the folding of an ASCII text, because in ASCII folding only makes letters small.
use Rattle.mail_words.proofs.Imports.{arith}
use Rattle.mail_words.proofs.FoldingLemmas.{folding-ascii}
use Rattle.mail_words.proofs.folding.fold_ascii.Goals as goal

pub returns-clause-exact : goal.returns-clause-exact
returns-clause-exact c = grind (arith, folding-ascii)
