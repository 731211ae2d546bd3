-- `Postings::of` has the numbers of these bytes, because only one list of numbers has them.
use Rattle.std.proofs.Common.{arith}
use Rattle.mail_index.proofs.ViewLaws.PostingReadLemmas.{read-posted}
use Rattle.mail_index.proofs.view.postings.Postings.of.Goals as goal

pub invariant_of-result : goal.invariant_of-result
invariant_of-result c = grind (arith, read-posted)

pub returns : goal.returns
returns c = λ ns h. read-posted 0 _ _ h
