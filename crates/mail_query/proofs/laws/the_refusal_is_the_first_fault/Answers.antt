-- The reader's fault and the first fault are the same, because both are those of its run over the tokens.
use Rattle.mail_query.proofs.BooleanLaws.BooleanPlaces.{fault_answered, answer_faulty}
use Rattle.mail_query.proofs.laws.the_refusal_is_the_first_fault.Goals as goal

pub returns : goal.returns
returns c = λ lexicon ts f. (answer_faulty lexicon ts f, fault_answered lexicon ts f)
