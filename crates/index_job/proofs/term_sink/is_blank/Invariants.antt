-- The bytes so far are blank, so those that are left decide. The loop ends because each turn leaves fewer.
use Rattle.index_job.proofs.Words.{◌≡◌, length}
use Rattle.index_job.specs.Inside.BlankTexts.{is_blank_text}
use Rattle.index_job.proofs.term_sink.is_blank.Given as goal

abbrev pub invariant-loop-first : goal.invariant-loop-first
invariant-loop-first l = is_blank_text l.rest ≡ is_blank_text l.fn.text

abbrev pub decreases-loop-first : goal.decreases-loop-first
decreases-loop-first l = length l.rest
