-- `Walk::united_in_groups` has the messages of all walks, group by group, and each round leaves fewer walks.
use Rattle.mail_answer.proofs.Words.{◌∙◌, sym, ap, arith, truth_at, union_of, steps_left_in}
use Rattle.mail_answer.proofs.CursorLaws.Groups.{grouped_more}
use Rattle.mail_answer.proofs.CursorLaws.Begins.{some_walk}
use Rattle.mail_answer.proofs.CursorLaws.Members.{united-at}
use Rattle.mail_answer.proofs.cursor.walk.Walk.united_in_groups.Goals as goal

pub loop-walks-preserved : goal.loop-walks-preserved
loop-walks-preserved c =
    let walks = c.loop-walks.walks.items in
    let at = c.saturating_sub.result in
    let items = c.in_ok-group.ensures.tail in
    let left = c.united.ensures.left ∙ ap steps_left_in items in
    let told = c.united.ensures.truths ∙ ap union_of items in
    rw (c.in_ok-push.ensures.items, c.in_ok-group.ensures.items)
    (grouped_more _ _ _ at c.united.result
    (omega (arith, c.saturating_sub.ensures, c.len.ensures, c.loop-walks.walks.ok.0))
    (some_walk _ _ c.loop-walks.walks.ok.0
    (sym c.is_empty.ensures ∙ c.loop-walks-test.true)) told left c.loop-walks.invariant)

pub returns-clause-truths : goal.returns-clause-truths
returns-clause-truths c = λ m. ap (λ xs. truth_at xs m) c.united-2.ensures.truths
    ∙ united-at m c.loop-alloc.walks.items ∙ c.loop-alloc.invariant.each m
