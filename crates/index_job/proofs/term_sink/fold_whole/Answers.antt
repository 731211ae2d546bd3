-- `fold_whole` folds the words of a text with it, by the laws about words of ASCII and of texts that fold evenly.
use Rattle.index_job.proofs.Words.{arith}
use Rattle.index_job.proofs.FoldedWords.{words-of-ascii, words-of-even}
use Rattle.index_job.proofs.term_sink.fold_whole.Goals as goal

pub returns-then-is_ascii : goal.returns-then-is_ascii
returns-then-is_ascii c = grind (arith, words-of-ascii)

pub returns : goal.returns
returns c = grind (arith, words-of-even)
