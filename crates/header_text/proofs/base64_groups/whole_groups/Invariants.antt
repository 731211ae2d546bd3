-- All bytes so far are symbols, so each whole group before this place has only symbols.
use Rattle.header_text.proofs.Words.{◌≡◌, ℕ, ◌<◌, true, slice_index, is_symbol}
use Rattle.header_text.proofs.base64_groups.whole_groups.Given as goal

-- all bytes so far are symbols
abbrev pub invariant-loop-i : goal.invariant-loop-i
invariant-loop-i l = (k : ℕ) → k < l.i → is_symbol (slice_index l.text k) ≡ true
