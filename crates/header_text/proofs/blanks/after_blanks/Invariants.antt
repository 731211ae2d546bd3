-- The rest has the same bytes after its blanks as the whole. The loop ends because each turn takes one blank away.
use Rattle.header_text.proofs.Words.{◌≡◌, length}
use Rattle.header_text.specs.Blanks.{after_blanks as after_blanks_of}
use Rattle.header_text.proofs.blanks.after_blanks.Given as goal

-- the rest has the same bytes after its blanks
abbrev pub invariant-loop-first : goal.invariant-loop-first
invariant-loop-first l = after_blanks_of l.rest ≡ after_blanks_of l.fn.bytes

abbrev pub decreases-loop-first : goal.decreases-loop-first
decreases-loop-first l = length l.rest
