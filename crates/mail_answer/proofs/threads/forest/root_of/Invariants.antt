-- The message that was reached is in the same tree and not after the first one, so the loop ends.
use Rattle.mail_answer.proofs.Words.{◌≤◌, Table, IsInThread, StaysInThreads, AreInOneTree, Shortens}
use Rattle.mail_answer.proofs.threads.forest.root_of.Given as goal

abbrev pub invariant-loop-parents : goal.invariant-loop-parents
invariant-loop-parents l = record {
  shortened : Shortens l.initial.parents l.parents;
  before : l.root ≤ l.number;
  same : AreInOneTree l.parents l.number l.root;
  thread : (t : Table) → StaysInThreads t l.initial.parents → IsInThread t l.number l.root;
}

abbrev pub decreases-loop-parents : goal.decreases-loop-parents
decreases-loop-parents l = l.root
