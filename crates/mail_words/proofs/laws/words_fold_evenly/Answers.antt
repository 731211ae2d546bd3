-- The words of a text that folds evenly fold with it, by a lemma over its characters.
use Rattle.mail_words.proofs.EvenFolding.{words-folding-even}
use Rattle.mail_words.proofs.laws.words_fold_evenly.Goals as goal

pub returns : goal.returns
returns c text utf8 even = words-folding-even text utf8 even
