-- `WaitingLines::clear` leaves no words, because an empty text has none.
use Rattle.index_job.proofs.Words.{◌∙◌, [], ap, refl, words}
use Rattle.index_job.proofs.BlankTexts.{blank-words}
use Rattle.index_job.proofs.waiting_lines.WaitingLines.clear.Goals as goal

pub returns : goal.returns
returns c = ap words c.clear.ensures.bytes ∙ blank-words _ refl
