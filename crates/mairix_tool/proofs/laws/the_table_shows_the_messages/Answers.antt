-- The table gives the text of the messages, number by number.
use Rattle.mairix_tool.proofs.TableLaws.MailSame.{shape-same}
use Rattle.mairix_tool.proofs.laws.the_table_shows_the_messages.Goals as goal

pub returns : goal.returns
returns c = shape-same
