-- A new iterator has all words of its text, because none was read yet, and each has the length of a word.
use Rattle.mail_words.proofs.Imports.{arith}
use Rattle.mail_words.proofs.Lengths.{words_left-whole, all-words}
use Rattle.mail_words.proofs.words.Words.of.Goals as goal

pub returns-clause-words : goal.returns-clause-words
returns-clause-words c = words_left-whole c.args.text.now

pub returns-clause-bounded : goal.returns-clause-bounded
returns-clause-bounded c = grind (arith, words_left-whole, all-words)
