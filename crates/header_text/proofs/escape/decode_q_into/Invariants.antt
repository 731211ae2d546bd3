-- What was added, with what the rest still gives, is the whole. The loop ends because each `_` makes the rest shorter.
use Rattle.header_text.proofs.Words.{◌≡◌, ◌++◌, length, q_bytes}
use Rattle.header_text.proofs.escape.decode_q_into.Given as goal

-- what was written, and what the rest still gives
abbrev pub invariant-loop-stretch : goal.invariant-loop-stretch
invariant-loop-stretch l = l.into.items ++ q_bytes l.rest ≡ l.fn.into.items ++ q_bytes l.fn.text

abbrev pub decreases-loop-stretch : goal.decreases-loop-stretch
decreases-loop-stretch l = length l.rest
