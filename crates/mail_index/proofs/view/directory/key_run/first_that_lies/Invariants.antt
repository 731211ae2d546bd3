-- The keys before `low` are below `least`, and those from `high` on aren't. Each turn halves the keys between.
use Rattle.mail_index.proofs.Words.{◌-◌, ◌<◌, ◌≤◌, ℕ, length, ordering_index, AreSorted, key_at}
use Rattle.mail_index.specs.Inside.KeyRuns.{lies_to_run}
use Rattle.mail_index.proofs.view.directory.key_run.first_that_lies.Given as goal

abbrev pub invariant-loop-low : goal.invariant-loop-low
invariant-loop-low l = record {
  sorted : AreSorted l.directory;
  order : l.low ≤ l.high;
  within : l.high ≤ length l.directory;
  below : (j : ℕ) → j < l.low → ordering_index (lies_to_run l.kind l.text (key_at l.directory j)) < ordering_index
      l.least;
  above : (j : ℕ) → l.high ≤ j → j < length l.directory
      → ordering_index l.least ≤ ordering_index (lies_to_run l.kind l.text (key_at l.directory j));
}

abbrev pub decreases-loop-low : goal.decreases-loop-low
decreases-loop-low l = l.high - l.low
