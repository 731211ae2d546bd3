-- `with_marked_root` returns the messages whose root is marked, message by message.
use Rattle.mail_answer.proofs.Words.{arith}
use Rattle.mail_answer.proofs.CursorLaws.TruthLists.{filter_true, filter_false}
use Rattle.mail_answer.proofs.threads.with_marked_root.Goals as goal
use Rattle.mail_answer.proofs.threads.with_marked_root.Goals.{then-marks-roots+in_ok-push, else-marks-roots}

pub loop-number-preserved : goal.loop-number-preserved
loop-number-preserved = grind (arith, then-marks-roots+in_ok-push, filter_true, else-marks-roots, filter_false)
