-- The rest has the same bytes before its blanks as the whole. The loop ends because each turn takes one blank away.
use Rattle.header_text.proofs.Words.{◌≡◌, length}
use Rattle.header_text.specs.Blanks.{before_blanks as before_blanks_of}
use Rattle.header_text.proofs.blanks.before_blanks.Given as goal

-- the rest has the same bytes before its blanks
abbrev pub invariant-loop-last : goal.invariant-loop-last
invariant-loop-last l = before_blanks_of l.rest ≡ before_blanks_of l.fn.bytes

abbrev pub decreases-loop-last : goal.decreases-loop-last
decreases-loop-last l = length l.rest
