-- The messages of the lists in the window are marked or still come, and none of the first lists has one there.
use Rattle.mail_answer.proofs.Words.{◌-◌, length, CountsSteps, marks_in, steps_left_in}
use Rattle.mail_answer.proofs.CursorLaws.MarkedLists.{HaveMarked}
use Rattle.mail_answer.proofs.cursor.marked.mark_all.Given as goal

abbrev pub invariant-loop-place : goal.invariant-loop-place
invariant-loop-place l = record {
  marked : HaveMarked l.start l.fn.lists.items (marks_in l.fn.words) l.place l.lists.items (marks_in l.words) l.least;
  steps : CountsSteps (steps_left_in l.fn.lists.items) (steps_left_in l.lists.items) l.fn.steps l.steps;
}

abbrev pub decreases-loop-place : goal.decreases-loop-place
decreases-loop-place l = length l.lists.items - l.place
