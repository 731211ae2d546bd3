-- An mbox answer is cut into its messages, because each was cut out of an archive.
use Rattle.mairix_tool.proofs.ReplyLaws.CutAgain.{answer-cut-again}
use Rattle.mairix_tool.proofs.laws.an_answer_is_cut_into_its_messages.Goals as goal

pub returns : goal.returns
returns c = answer-cut-again
