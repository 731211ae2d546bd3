-- A run over a stored index has one reply, because the index is refused in one way or has one table.
use Rattle.mairix_tool.proofs.Words.{arith}
use Rattle.std.proofs.Math.Facts.{Fits-lt-pow}
use Rattle.mairix_tool.proofs.ReplyLaws.OneReply.{one-stored}
use Rattle.mairix_tool.proofs.reply_laws.stored_runs_have_one_reply.Goals as goal

pub returns : goal.returns
returns c = λ asked held a b. one-stored c.args.index.now (grind (arith, Fits-lt-pow)) (omega (arith, c.well_formed))
    held a b asked
