-- The keys before `low` are before the searched one, those from `high` on after it, and the comparisons of those
-- between are still to come.
use Rattle.mail_index.proofs.Words.{◌≡◌, ◌-◌, ◌<◌, ◌≤◌, ℕ, length, Less, Greater, add_steps, lies_to, AreSorted, comparisons, comparisons_within, key_at}
use Rattle.mail_index.specs.Inside.KeyRuns.{keys_between}
use Rattle.mail_index.proofs.view.look_up.look_up.Given as goal

abbrev pub invariant-loop-low : goal.invariant-loop-low
invariant-loop-low l = record {
  sorted : AreSorted l.keys.directory;
  order : l.low ≤ l.high;
  within : l.high ≤ length l.keys.directory;
  below : (j : ℕ) → j < l.low → lies_to l.kind l.text (key_at l.keys.directory j) ≡ Less;
  above : (j : ℕ) → l.high ≤ j → j < length l.keys.directory → lies_to l.kind l.text (key_at l.keys.directory j)
      ≡ Greater;
  steps : (most : ℕ) × (l.high - l.low ≤ most)
      × (add_steps l.steps (comparisons_within most l.kind l.text (keys_between l.low l.high l.keys.directory))
      ≡ add_steps l.fn.steps (comparisons l.kind l.text l.keys.directory));
}

abbrev pub decreases-loop-low : goal.decreases-loop-low
decreases-loop-low l = l.high - l.low
