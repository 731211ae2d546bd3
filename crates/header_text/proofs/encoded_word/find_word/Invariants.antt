-- No word begins before the rest. The loop ends because each `=` that is passed makes the rest shorter.
use Rattle.header_text.proofs.Words.{length}
use Rattle.header_text.proofs.WordLaws.WordLemmas.{Seen}
use Rattle.header_text.proofs.encoded_word.find_word.Given as goal

-- no word has begun so far
abbrev pub invariant-loop-after : goal.invariant-loop-after
invariant-loop-after l = Seen l.value l.rest

abbrev pub decreases-loop-after : goal.decreases-loop-after
decreases-loop-after l = length l.rest
