-- `Marked::new` has the messages of its lists, because it has no marks yet.
use Rattle.mail_answer.proofs.Words.{refl}
use Rattle.mail_answer.proofs.CursorLaws.MarkedLists.{begins_marked, begins_window}
use Rattle.mail_answer.proofs.cursor.marked.Marked.new.Goals as goal

pub invariant_of-result : goal.invariant_of-result
invariant_of-result c = begins_window _ _ refl c.requires

pub returns-clause-truths : goal.returns-clause-truths
returns-clause-truths c = begins_marked c.args.lists.items _ refl
