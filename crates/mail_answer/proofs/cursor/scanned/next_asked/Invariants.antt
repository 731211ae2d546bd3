-- No record so far meets the condition, and each took a step.
use Rattle.mail_answer.proofs.Words.{◌≡◌, ◌-◌, ◌<◌, ◌≤◌, ℕ, false, length, add_steps, Spends, satisfies}
use Rattle.mail_answer.proofs.cursor.scanned.next_asked.Given as goal

abbrev pub invariant-loop-next : goal.invariant-loop-next
invariant-loop-next l = record {
  from : l.initial.next ≤ l.next;
  none : (m : ℕ) → l.initial.next ≤ m → m < l.next → satisfies l.records l.asked m ≡ false;
  looked : l.steps ≡ add_steps l.initial.steps (l.next - l.initial.next);
  steps : Spends (length l.records - l.initial.next) (length l.records - l.next) l.initial.steps l.steps;
}

abbrev pub decreases-loop-next : goal.decreases-loop-next
decreases-loop-next l = length l.records - l.next
