-- The table links two messages exactly if they share a link id, because no two keys have the same id.
use Rattle.mairix_tool.proofs.TableLaws.MailSame.{links-same}
use Rattle.mairix_tool.proofs.laws.the_table_links_as_the_messages.Goals as goal

pub returns : goal.returns
returns c = links-same
