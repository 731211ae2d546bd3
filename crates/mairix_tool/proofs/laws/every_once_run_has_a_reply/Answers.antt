-- Every run that indexes its archives has a reply, by the cases of its definition.
use Rattle.mairix_tool.proofs.ReplyLaws.Once.{some-once-reply}
use Rattle.mairix_tool.proofs.laws.every_once_run_has_a_reply.Goals as goal

pub returns : goal.returns
returns c = some-once-reply
