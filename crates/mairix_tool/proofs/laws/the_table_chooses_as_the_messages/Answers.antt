-- The table chooses as the messages, because it gives the same numbers for a query and links the same messages.
use Rattle.mairix_tool.proofs.TableLaws.MailSame.{chosen-same}
use Rattle.mairix_tool.proofs.laws.the_table_chooses_as_the_messages.Goals as goal

pub returns : goal.returns
returns c = chosen-same
