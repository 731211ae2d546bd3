-- All bytes from `len` on are joiners. The loop ends because each turn passes one more.
use Rattle.mail_words.proofs.Imports.{◌≡◌, ◌<◌, ◌≤◌, ℕ, true, length, slice_index, is_joiner}
use Rattle.mail_words.proofs.runs.len_before_joiners.Given as goal

-- the bytes passed so far are joiners
abbrev pub invariant-loop-len : goal.invariant-loop-len
invariant-loop-len l = record {
  within : l.len ≤ length l.bytes;
  joiners : (k : ℕ) → l.len ≤ k → k < length l.bytes → is_joiner (slice_index l.bytes k) ≡ true;
}

abbrev pub decreases-loop-len : goal.decreases-loop-len
decreases-loop-len l = l.len
