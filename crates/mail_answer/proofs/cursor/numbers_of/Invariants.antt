-- The numbers so far, and those that still come; and the steps so far.
use Rattle.mail_answer.proofs.Words.{◌≡◌, ◌++◌, Spends, length}
use Rattle.mail_answer.proofs.cursor.numbers_of.Given as goal

abbrev pub invariant-loop-number : goal.invariant-loop-number
invariant-loop-number l = record {
  numbers : l.numbers.items ++ l.cursor.numbers ≡ l.fn.cursor.numbers;
  spent : Spends l.fn.cursor.left l.cursor.left l.fn.steps l.steps;
}

abbrev pub decreases-loop-number : goal.decreases-loop-number
decreases-loop-number l = length l.cursor.numbers
