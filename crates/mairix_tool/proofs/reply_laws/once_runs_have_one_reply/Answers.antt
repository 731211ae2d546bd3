-- A run that indexes its archives has one reply, because the first faulty archive and the answer are determined.
use Rattle.mairix_tool.proofs.ReplyLaws.OneReply.{one-reply, one-once, either-replied}
use Rattle.mairix_tool.proofs.reply_laws.once_runs_have_one_reply.Goals as goal

pub returns-clause-by_messages : goal.returns-clause-by_messages
returns-clause-by_messages c = one-reply

pub returns-clause-by_table : goal.returns-clause-by_table
returns-clause-by_table c = one-once

pub returns-clause-either : goal.returns-clause-either
returns-clause-either c = either-replied
