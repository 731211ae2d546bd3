-- No byte so far is a stop. The loop ends because each turn takes one byte more.
use Rattle.mail_words.proofs.Imports.{◌≡◌, ℕ, ◌-◌, ◌<◌, ◌≤◌, false, length}
use Rattle.mail_words.specs.Inside.Folds.{is_stop_at}
use Rattle.mail_words.proofs.kept_front.quick_len.Given as goal

abbrev pub invariant-loop-len : goal.invariant-loop-len
invariant-loop-len l = record {
  within : l.len ≤ length l.bytes;
  passed : (k : ℕ) → k < l.len → is_stop_at l.bytes k ≡ false;
}

abbrev pub decreases-loop-len : goal.decreases-loop-len
decreases-loop-len l = length l.bytes - l.len
