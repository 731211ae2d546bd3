-- What is read of an index has the first fault and the table of the whole file.
use Rattle.mairix_run.proofs.IndexReplies.{same_refusals, same_replies}
use Rattle.mairix_run.proofs.laws.what_is_read_of_an_index_is_answered_as_all.Goals as goal

pub returns-clause-replies : goal.returns-clause-replies
returns-clause-replies c = λ asked all bytes held answer read. same_replies all bytes read asked held answer

pub returns-clause-refusals : goal.returns-clause-refusals
returns-clause-refusals c = λ asked all bytes fault read. same_refusals all bytes read asked fault
