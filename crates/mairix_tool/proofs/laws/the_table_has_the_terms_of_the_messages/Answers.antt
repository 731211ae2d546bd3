-- The table has the terms of the messages, because each term was added with its number.
use Rattle.mairix_tool.proofs.Words.{arith}
use Rattle.mairix_tool.proofs.TableLaws.Messages.{keys-say}
use Rattle.mairix_tool.proofs.laws.the_table_has_the_terms_of_the_messages.Goals as goal

pub returns : goal.returns
returns c = grind (arith, keys-say)
