-- The trees are the same, and each message so far is a child of its root.
use Rattle.mail_answer.proofs.Words.{◌≡◌, ◌<◌, ℕ, get_or, Shortens}
use Rattle.mail_answer.proofs.threads.forest.flatten.Given as goal

abbrev pub invariant-loop-number : goal.invariant-loop-number
invariant-loop-number l = record {
  shortened : Shortens l.initial.parents l.parents;
  flat : (n : ℕ) → n < l.number → get_or l.parents (get_or l.parents n 0) 0 ≡ get_or l.parents n 0;
}
