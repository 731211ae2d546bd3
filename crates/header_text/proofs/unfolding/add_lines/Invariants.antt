-- What was added, with what the rest still gives, is the whole. The loop ends because each line makes the rest shorter.
use Rattle.header_text.proofs.Words.{length, Extends}
use Rattle.header_text.proofs.HeaderLaws.UnfoldLemmas.{Unfolds}
use Rattle.header_text.proofs.unfolding.add_lines.Given as goal

-- what was written, and what the rest still gives
abbrev pub invariant-loop-line : goal.invariant-loop-line
invariant-loop-line l = record {
  sofar : Unfolds l.fn.into.items l.fn.body l.into.items l.rest;
  kept : Extends l.fn.into.items l.into.items;
}

abbrev pub decreases-loop-line : goal.decreases-loop-line
decreases-loop-line l = length l.rest
