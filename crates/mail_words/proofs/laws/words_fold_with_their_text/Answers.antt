-- In ASCII the words of a folding are the foldings of the words, because case doesn't change where words are.
use Rattle.mail_words.proofs.AsciiFolding.{words-folding-ascii}
use Rattle.mail_words.proofs.laws.words_fold_with_their_text.Goals as goal

pub returns : goal.returns
returns c text ascii = words-folding-ascii text ascii
