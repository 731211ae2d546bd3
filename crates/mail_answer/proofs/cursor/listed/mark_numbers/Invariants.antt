-- The numbers that were dropped so far are marked, if they are in the window, and come before all others.
use Rattle.mail_answer.proofs.Words.{◌≡◌, [], length, IfNone, CountsSteps, marks_in, numbers_ahead}
use Rattle.mail_answer.proofs.CursorLaws.MarkedNumbers.{AreMarked, count_left}
use Rattle.mail_answer.proofs.cursor.listed.mark_numbers.Given as goal

abbrev pub invariant-loop-least : goal.invariant-loop-least
invariant-loop-least l = record {
  marked : AreMarked l.start (numbers_ahead l.fn.first l.fn.after) (marks_in l.fn.words) l.least l.after
      (marks_in l.words);
  ended : IfNone l.least (l.after ≡ []);
  steps : CountsSteps (length l.fn.after) (length l.after) l.fn.steps l.steps;
}

abbrev pub decreases-loop-least : goal.decreases-loop-least
decreases-loop-least l = count_left l.least l.after
