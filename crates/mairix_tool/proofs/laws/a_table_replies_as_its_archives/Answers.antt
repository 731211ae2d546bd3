-- The table of archives replies as these do, because it says about their messages what they say themselves.
use Rattle.mairix_tool.proofs.ReplyLaws.Once.{once-reply}
use Rattle.mairix_tool.proofs.laws.a_table_replies_as_its_archives.Goals as goal

pub returns : goal.returns
returns c = once-reply
