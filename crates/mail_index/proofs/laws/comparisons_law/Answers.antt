-- The law of comparisons, from lemmas about searches: each comparison halves the keys.
use Rattle.mail_index.proofs.Words.{arith}
use Rattle.mail_index.proofs.ViewLaws.Comparisons.{comparisons-few, comparisons-many, comparisons-some}
use Rattle.mail_index.proofs.laws.comparisons_law.Goals as goal

pub returns-clause-few : goal.returns-clause-few
returns-clause-few c kind text ks digits h = comparisons-few _ _ _ _ _ h

pub returns-clause-many : goal.returns-clause-many
returns-clause-many c kind text ks digits none h = comparisons-many _ _ _ _ _ (omega arith) none h

pub returns-clause-some : goal.returns-clause-some
returns-clause-some c kind text ks h = comparisons-some _ _ _ h
