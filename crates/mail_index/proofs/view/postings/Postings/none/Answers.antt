-- `Postings::none` has no number, because it has no byte.
use Rattle.mail_index.proofs.Words.{refl, numbers_read}
use Rattle.mail_index.proofs.view.postings.Postings.none.Goals as goal

pub invariant_of-result : goal.invariant_of-result
unfolding numbers_read
invariant_of-result c = record { rises = tt; below = tt; spelled = refl }

pub returns : goal.returns
unfolding numbers_read
returns c = refl
