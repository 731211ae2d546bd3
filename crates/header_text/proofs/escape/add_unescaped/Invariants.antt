-- What was added, with what the rest still gives, is the whole. The loop ends because each `=` makes the rest shorter.
use Rattle.header_text.proofs.Words.{◌≡◌, ◌++◌, length, Extends, unescaped_bytes}
use Rattle.header_text.proofs.escape.add_unescaped.Given as goal

-- what was written, and what the rest still gives
abbrev pub invariant-loop-plain : goal.invariant-loop-plain
invariant-loop-plain l = record {
  sofar : l.into.items ++ unescaped_bytes l.rest ≡ l.fn.into.items ++ unescaped_bytes l.fn.bytes;
  kept : Extends l.fn.into.items l.into.items;
}

abbrev pub decreases-loop-plain : goal.decreases-loop-plain
decreases-loop-plain l = length l.rest
