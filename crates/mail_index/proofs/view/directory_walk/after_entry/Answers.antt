-- `after_entry` accepts an entry exactly if it may come next, by its tests.
use Rattle.mail_index.proofs.Words.{arith}
use Rattle.mail_index.proofs.view.directory_walk.after_entry.Goals as goal

pub returns : goal.returns
returns c = grind arith
