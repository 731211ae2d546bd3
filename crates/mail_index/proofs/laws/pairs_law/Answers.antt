-- The law of pairs, from lemmas about `with_pair`, key by key.
use Rattle.mail_index.proofs.BuildLaws.PairLaw.{with_pair-has, with_pair-keeps, with_pair-tells}
use Rattle.mail_index.proofs.BuildLaws.HadPairs.{with_pair-had}
use Rattle.mail_index.proofs.laws.pairs_law.Goals as goal

pub returns-clause-added : goal.returns-clause-added
returns-clause-added c = with_pair-has

pub returns-clause-kept : goal.returns-clause-kept
returns-clause-kept c = with_pair-keeps

pub returns-clause-only : goal.returns-clause-only
returns-clause-only c = with_pair-tells

pub returns-clause-had : goal.returns-clause-had
returns-clause-had c = with_pair-had
