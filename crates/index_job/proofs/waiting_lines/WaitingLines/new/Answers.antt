-- `WaitingLines::new` has no words, because an empty text has none.
use Rattle.index_job.proofs.Words.{◌∙◌, [], ap, refl, words}
use Rattle.index_job.proofs.BlankTexts.{blank-words}
use Rattle.index_job.proofs.waiting_lines.WaitingLines.new.Goals as goal

pub returns : goal.returns
returns c = ap words c.in_ok-with_capacity.ensures.bytes ∙ blank-words _ refl
