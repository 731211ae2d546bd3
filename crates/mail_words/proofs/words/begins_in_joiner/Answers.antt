-- `begins_in_joiner` may look at the first byte alone, because each joiner is a character of one byte.
use Rattle.mail_words.proofs.Imports.{arith, nat_tests}
use Rattle.mail_words.proofs.Characters.{joiner-first}
use Rattle.mail_words.proofs.words.begins_in_joiner.Goals as goal

pub returns-in-empty : goal.returns-in-empty
returns-in-empty c = grind (arith, nat_tests, joiner-first c.args.text.now c.utf8.text)

pub returns-in-len1-up : goal.returns-in-len1-up
returns-in-len1-up c = grind (arith, nat_tests, joiner-first c.args.text.now c.utf8.text)
