-- `Walk::along_some` has the messages of its lists, list by list.
use Rattle.mail_answer.proofs.Words.{◌∙◌, Bool, List, ap, arith, truth_at}
use Rattle.mail_answer.proofs.CursorLaws.Groups.{alone_each, alone_left}
use Rattle.mail_answer.proofs.CursorLaws.Members.{united-at}
use Rattle.mail_answer.proofs.cursor.walk.Walk.along_some.Goals as goal

pub loop-list-preserved : goal.loop-list-preserved
loop-list-preserved c = record {
  each = λ m.
      alone_each m _ _ _ _
      _ _ c.in_ok-push.ensures.items c.in-Some.ensures.items
      (ap (λ w. w.truths) c.of-in-Some.ensures)
      ∙ c.loop-list.invariant.each m;
  left =
      alone_left _ _ _ _
      _ _ c.in_ok-push.ensures.items c.in-Some.ensures.items
      (ap (λ w. w.left) c.of-in-Some.ensures)
      ∙ c.loop-list.invariant.left;
}

pub returns-clause-truths : goal.returns-clause-truths
returns-clause-truths c = λ m. ap (λ (xs : List Bool). truth_at xs m) c.united.ensures.truths
    ∙ united-at m c.loop-list.walks.items ∙ grind arith
