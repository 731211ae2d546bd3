-- The first `at` bytes were sent.
use Rattle.mail_answer.proofs.Words.{◌≡◌, ◌≤◌, ◌-◌, length, take, Appends, count_after}
use Rattle.mail_answer.proofs.output.sheet.Sheet.send.Given as goal

abbrev pub invariant-loop-at : goal.invariant-loop-at
invariant-loop-at g l = record {
  within : l.at ≤ length l.self.text;
  same : l.self.text ≡ l.fn.self.text;
  appends : Appends (g.O.Out.taken l.fn.out) (g.O.Out.taken l.out) (take l.at l.fn.self.text);
  sent : l.self.sent ≡ count_after l.fn.self.sent (take l.at l.fn.self.text);
  kept : l.self.sent ≡ 0 → l.out ≡ l.fn.out;
  count : g.O.Out.failures l.out ≡ g.O.Out.failures l.fn.out;
}

abbrev pub decreases-loop-at : goal.decreases-loop-at
decreases-loop-at g l = length l.self.text - l.at
