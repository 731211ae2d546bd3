-- Every run over a stored index has a reply, by the result of opening the index.
use Rattle.mairix_tool.proofs.ReplyLaws.Stored.{some-stored-reply}
use Rattle.mairix_tool.proofs.laws.every_stored_run_has_a_reply.Goals as goal

pub returns : goal.returns
returns c = some-stored-reply c.args.index.now c.open-read.result c.open-read.ensures.ok c.open-read.ensures.fault
