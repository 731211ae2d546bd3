-- `after_message` accepts a message exactly if it may come next, by its tests.
use Rattle.mail_index.proofs.Words.{arith}
use Rattle.mail_index.proofs.view.record_walk.after_message.Goals as goal

pub returns : goal.returns
returns c = grind arith
