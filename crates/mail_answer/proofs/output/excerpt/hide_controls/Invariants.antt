-- The bytes so far are as they are written, and the others are unchanged.
use Rattle.mail_answer.proofs.Words.{◌≡◌, ◌<◌, ◌≤◌, ℕ, get_or, length, shown_byte}
use Rattle.mail_answer.proofs.output.excerpt.hide_controls.Given as goal

abbrev pub invariant-loop-b : goal.invariant-loop-b
invariant-loop-b l = record {
  long : length l.text ≡ length l.fn.text;
  done : (k : ℕ) → k < l.b-index → get_or l.text k 0 ≡ shown_byte (get_or l.fn.text k 0);
  rest : (k : ℕ) → l.b-index ≤ k → get_or l.text k 0 ≡ get_or l.fn.text k 0;
}
