-- All bytes so far are word characters. The loop ends because a turn that doesn't return passes sixteen of them.
use Rattle.mail_words.proofs.Imports.{◌≡◌, ℕ, ◌-◌, ◌<◌, ◌≤◌, true, length, slice_index, is_ascii_word}
use Rattle.mail_words.proofs.lanes.len_by_lanes.Given as goal

abbrev pub invariant-loop-len : goal.invariant-loop-len
invariant-loop-len l = record {
  within : l.len ≤ length l.bytes;
  passed : (k : ℕ) → k < l.len → is_ascii_word (slice_index l.bytes k) ≡ true;
}

abbrev pub decreases-loop-len : goal.decreases-loop-len
decreases-loop-len l = length l.bytes - l.len
