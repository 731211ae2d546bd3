-- `with_same_root` returns the messages that have a root of these, because it marks the roots first.
use Rattle.mail_answer.proofs.Words.{◌∙◌, refl, arith, take_all, length-replicate}
use Rattle.mail_answer.proofs.CursorLaws.TruthLists.{adds_to_none}
use Rattle.mail_answer.proofs.threads.with_same_root.Goals as goal

pub index_mut-requires : goal.index_mut-requires
index_mut-requires = grind (arith, length-replicate)

pub with_marked_root-requires-clause-marked : goal.with_marked_root-requires-clause-marked
with_marked_root-requires-clause-marked = grind (arith, length-replicate)

pub returns : goal.returns
returns c =
    rw (c.as_slice.ensures.value ∙ adds_to_none _ _ _ _ refl
    (rw (take_all c.loop-number.number-index c.args.numbers.now c.loop-number-test.false) at
    c.loop-number.invariant)) at
    c.with_marked_root.ensures
