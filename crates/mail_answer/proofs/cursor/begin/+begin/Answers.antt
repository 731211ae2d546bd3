-- `walk_of` makes the walk of a node, by the kind of the node and from the walks of its members.
use Rattle.mail_answer.proofs.Words.{◌∙◌, ◌+◌, ◌≤◌, ℕ, add_steps, look_up_steps, look_up_steps_of_all, drop, refl, sym, ap, subst, arith, IfOk, eqb-true, Query, query_of, queries_of, members_of, fits, Whole, Within, Front, most_left}
use Rattle.std.specs.Vec.{vec_len}
use Rattle.mail_answer.specs.declared.cursor.scanned.Asked.TheVariants as asked
use Rattle.mail_query.specs.Query as query
use Rattle.mail_query.proofs.NodeLemmas.{query_of-Flag, query_of-Not}
use Rattle.mail_answer.proofs.CursorLaws.NodeQueries.{query_of-Any, query_of-Word, query_of-Part, query_of-Prefix, query_of-Either}
use Rattle.mail_answer.proofs.CursorLaws.MemberLemmas.{next_member, no_member}
use Rattle.mail_answer.proofs.CursorLaws.Texts.{word_past}
use Rattle.mail_answer.proofs.CursorLaws.Begins.{some_walk, query_of-Date, query_of-Size, query_of-All, tells_scanned, left_scanned, tells_text, tells_not, tells_grouped, tells_common, tells_none, walks_more, walks_steps, walks_told}
use Rattle.mail_answer.proofs.CursorLaws.LookUpSteps.{if_always, none_taken, none_compared, steps_of, member_more, no_member_more}
use Rattle.mail_answer.proofs.cursor.begin.+begin.Goals as goal

pub walk_of-returns-in-Any-clause-truths : goal.walk_of-returns-in-Any-clause-truths
walk_of-returns-in-Any-clause-truths t c =
    tells_scanned _ _ _ _ asked.Any
    _ (ap query_of c.in-Any.is ∙ query_of-Any) refl c.records.ensures
    c.scanned.ensures.truths

pub walk_of-returns-in-Date-clause-truths : goal.walk_of-returns-in-Date-clause-truths
walk_of-returns-in-Date-clause-truths t c =
    tells_scanned _ _ _
    _ (asked.Date c.in-Date.range) _
    (ap query_of c.in-Date.is ∙ query_of-Date _) refl c.records-in-Date.ensures
    c.scanned-in-Date.ensures.truths

pub walk_of-returns-in-Size-clause-truths : goal.walk_of-returns-in-Size-clause-truths
walk_of-returns-in-Size-clause-truths t c =
    tells_scanned _ _ _
    _ (asked.Size c.in-Size.low c.in-Size.high) _
    (ap query_of c.in-Size.is ∙ query_of-Size _ _) refl c.records-in-Size.ensures
    c.scanned-in-Size.ensures.truths

pub walk_of-returns-in-Flag-clause-truths : goal.walk_of-returns-in-Flag-clause-truths
walk_of-returns-in-Flag-clause-truths t c =
    tells_scanned _ _ _
    _ (asked.Flag c.in-Flag.flag c.in-Flag.wanted) _
    (ap query_of c.in-Flag.is ∙ query_of-Flag _ _) refl c.records-in-Flag.ensures
    c.scanned-in-Flag.ensures.truths

pub walk_of-returns-in-Any-clause-left : goal.walk_of-returns-in-Any-clause-left
walk_of-returns-in-Any-clause-left t c =
    left_scanned _ _ _ _ _
    (ap query_of c.in-Any.is ∙ query_of-Any) refl c.records.ensures c.scanned.ensures.left

pub walk_of-returns-in-Date-clause-left : goal.walk_of-returns-in-Date-clause-left
walk_of-returns-in-Date-clause-left t c =
    left_scanned _ _ _ _
    _ (ap query_of c.in-Date.is ∙ query_of-Date _) refl
    c.records-in-Date.ensures
    c.scanned-in-Date.ensures.left

pub walk_of-returns-in-Size-clause-left : goal.walk_of-returns-in-Size-clause-left
walk_of-returns-in-Size-clause-left t c =
    left_scanned _ _ _
    _ _
    (ap query_of c.in-Size.is ∙ query_of-Size _ _) refl c.records-in-Size.ensures
    c.scanned-in-Size.ensures.left

pub walk_of-returns-in-Flag-clause-left : goal.walk_of-returns-in-Flag-clause-left
walk_of-returns-in-Flag-clause-left t c =
    left_scanned _ _ _
    _ _
    (ap query_of c.in-Flag.is ∙ query_of-Flag _ _) refl c.records-in-Flag.ensures
    c.scanned-in-Flag.ensures.left

pub walk_of-returns-in-Word-clause-truths : goal.walk_of-returns-in-Word-clause-truths
walk_of-returns-in-Word-clause-truths t c =
    tells_text c.args.index.now (query_of c.args.node.now) (query.Word c.in-Word.kinds c.in-Word.text)
    c.with_text.result (ap query_of c.in-Word.is ∙ query_of-Word c.in-Word.kinds c.in-Word.text)
    (λ m le. word_past c.in-Word.kinds (fits Whole c.in-Word.text) c.args.index.now m c.requires le)
    c.with_text.ensures.truths

pub walk_of-returns-in-Part-clause-truths : goal.walk_of-returns-in-Part-clause-truths
walk_of-returns-in-Part-clause-truths t c =
    tells_text c.args.index.now (query_of c.args.node.now) (query.Part c.in-Part.kinds c.in-Part.text)
    c.with_text-in-Part.result (ap query_of c.in-Part.is ∙ query_of-Part c.in-Part.kinds c.in-Part.text)
    (λ m le. word_past c.in-Part.kinds (fits Within c.in-Part.text) c.args.index.now m c.requires le)
    c.with_text-in-Part.ensures.truths

pub walk_of-returns-in-Part-clause-left : goal.walk_of-returns-in-Part-clause-left
walk_of-returns-in-Part-clause-left t c =
    subst (λ q. IfOk c.with_text-in-Part.result (λ w. w.left ≤ most_left c.args.index.now q))
    (sym (ap query_of c.in-Part.is ∙ query_of-Part _ _)) c.with_text-in-Part.ensures.left

pub walk_of-returns-in-Prefix-clause-truths : goal.walk_of-returns-in-Prefix-clause-truths
walk_of-returns-in-Prefix-clause-truths t c =
    tells_text c.args.index.now (query_of c.args.node.now) (query.Prefix c.in-Prefix.kinds c.in-Prefix.text)
    c.with_text-in-Prefix.result (ap query_of c.in-Prefix.is ∙ query_of-Prefix c.in-Prefix.kinds c.in-Prefix.text)
    (λ m le. word_past c.in-Prefix.kinds (fits Front c.in-Prefix.text) c.args.index.now m c.requires le)
    c.with_text-in-Prefix.ensures.truths

pub walk_of-returns-in_ok-inner-in-Not-clause-truths : goal.walk_of-returns-in_ok-inner-in-Not-clause-truths
walk_of-returns-in_ok-inner-in-Not-clause-truths t c =
    tells_not _ _ _
    _ _ _
    (ap query_of c.in-Not.is ∙ query_of-Not _ ∙ ap (λ n. query.Not (query_of n))
    (sym c.deref.ensures)) c.message_count-count.ensures.count c.in_ok-inner-in-Not.ensures.truths
    c.others.ensures.truths

pub walk_of-returns-then-is_empty-clause-truths : goal.walk_of-returns-then-is_empty-clause-truths
walk_of-returns-then-is_empty-clause-truths t c =
    tells_none _ _ _
    _ _ _
    _
    (ap query_of c.in-All.is ∙ query_of-All _
    ∙ ap (λ ns. query.All (members_of (queries_of ns))) (sym c.as_slice.ensures.value))
    (omega (
      arith,
      c.in_ok-walks-in-All.walks.ok.0,
      eqb-true (vec_len c.in_ok-walks-in-All.walks) 0
          (sym c.is_empty.ensures ∙ c.if-is_empty.true),
    )) c.message_count-count.ensures.count c.united.ensures.truths
    c.in_ok-walks-in-All.ensures.truths c.others-then-is_empty.ensures.truths

pub walk_of-returns-else-is_empty-clause-truths : goal.walk_of-returns-else-is_empty-clause-truths
walk_of-returns-else-is_empty-clause-truths t c =
    tells_common _ _ _
    _ _
    (ap query_of c.in-All.is ∙ query_of-All _
    ∙ ap (λ ns. query.All (members_of (queries_of ns))) (sym c.as_slice.ensures.value))
    (some_walk _ _
    c.in_ok-walks-in-All.walks.ok.0 (sym c.is_empty.ensures ∙ c.if-is_empty.false)) c.common.ensures.truths
    c.in_ok-walks-in-All.ensures.truths

pub walk_of-returns-in_ok-walks-in-Either-clause-truths : goal.walk_of-returns-in_ok-walks-in-Either-clause-truths
walk_of-returns-in_ok-walks-in-Either-clause-truths t c =
    tells_grouped _ _ _
    _ _
    (ap query_of c.in-Either.is ∙ query_of-Either _
    ∙ ap (λ ns. query.Either (members_of (queries_of ns))) (sym c.as_slice-in-Either.ensures.value))
    c.in_ok-walks-in-Either.ensures.truths c.united_in_groups.ensures.truths

pub walk_of-returns-in-Any-clause-exact : goal.walk_of-returns-in-Any-clause-exact
walk_of-returns-in-Any-clause-exact t c =
    steps_of _ (look_up_steps c.args.index.now.keys) _ _
    _ _ 0 (ap query_of c.in-Any.is ∙ query_of-Any) refl
    (if_always _ (none_taken _ _ refl))

pub walk_of-returns-in-Date-clause-exact : goal.walk_of-returns-in-Date-clause-exact
walk_of-returns-in-Date-clause-exact t c =
    steps_of _ (look_up_steps c.args.index.now.keys) _
    _ _ _ 0
    (ap query_of c.in-Date.is ∙ query_of-Date _) refl
    (if_always _ (none_taken _ _ refl))

pub walk_of-returns-in-Size-clause-exact : goal.walk_of-returns-in-Size-clause-exact
walk_of-returns-in-Size-clause-exact t c =
    steps_of _ (look_up_steps c.args.index.now.keys) _
    _ _ _ 0
    (ap query_of c.in-Size.is ∙ query_of-Size _ _) refl
    (if_always _ (none_taken _ _ refl))

pub walk_of-returns-in-Flag-clause-exact : goal.walk_of-returns-in-Flag-clause-exact
walk_of-returns-in-Flag-clause-exact t c =
    steps_of _ (look_up_steps c.args.index.now.keys) _
    _ _ _ 0
    (ap query_of c.in-Flag.is ∙ query_of-Flag _ _) refl
    (if_always _ (none_taken _ _ refl))

pub walk_of-returns-in-Word-clause-exact : goal.walk_of-returns-in-Word-clause-exact
walk_of-returns-in-Word-clause-exact t c =
    steps_of _ (look_up_steps c.args.index.now.keys) _
    _ _ _ _
    (ap query_of c.in-Word.is ∙ query_of-Word _ _) refl c.with_text.ensures.exact

pub walk_of-returns-in-Part-clause-exact : goal.walk_of-returns-in-Part-clause-exact
walk_of-returns-in-Part-clause-exact t c =
    steps_of _ (look_up_steps c.args.index.now.keys) _
    _ _ _ _
    (ap query_of c.in-Part.is ∙ query_of-Part _ _) (none_compared _)
    c.with_text-in-Part.ensures.exact

pub walk_of-returns-in-Prefix-clause-exact : goal.walk_of-returns-in-Prefix-clause-exact
walk_of-returns-in-Prefix-clause-exact t c =
    steps_of _ (look_up_steps c.args.index.now.keys) _
    _ _ _ _
    (ap query_of c.in-Prefix.is ∙ query_of-Prefix _ _)
    (none_compared _) c.with_text-in-Prefix.ensures.exact

pub walk_of-returns-in_ok-inner-in-Not-clause-exact : goal.walk_of-returns-in_ok-inner-in-Not-clause-exact
walk_of-returns-in_ok-inner-in-Not-clause-exact t c =
    steps_of _ (look_up_steps c.args.index.now.keys) _
    _ _ _ _
    (ap query_of c.in-Not.is ∙ query_of-Not _ ∙ ap (λ n. query.Not (query_of n))
    (sym c.deref.ensures)) refl
    (if_always _ c.in_ok-inner-in-Not.ensures.exact)

pub walk_of-returns-then-is_empty-clause-exact : goal.walk_of-returns-then-is_empty-clause-exact
walk_of-returns-then-is_empty-clause-exact t c =
    steps_of _ (look_up_steps c.args.index.now.keys) _
    _ _ _ _
    (ap query_of c.in-All.is ∙ query_of-All _ ∙ ap
    (λ ns. query.All (members_of (queries_of ns))) (sym c.as_slice.ensures.value)) refl
    (if_always _ c.in_ok-walks-in-All.ensures.exact)

pub walk_of-returns-else-is_empty-clause-exact : goal.walk_of-returns-else-is_empty-clause-exact
walk_of-returns-else-is_empty-clause-exact t c =
    c.in_ok-walks-in-All.ensures.exact ∙ ap
    (λ x. add_steps c.args.steps.now (look_up_steps c.args.index.now.keys x))
    (sym (ap query_of c.in-All.is ∙ query_of-All _
    ∙ ap (λ ns. query.All (members_of (queries_of ns))) (sym c.as_slice.ensures.value)))

pub walk_of-returns-in_ok-walks-in-Either-clause-exact : goal.walk_of-returns-in_ok-walks-in-Either-clause-exact
walk_of-returns-in_ok-walks-in-Either-clause-exact t c =
    steps_of _ (look_up_steps c.args.index.now.keys) _
    _ _ _ _
    (ap query_of c.in-Either.is ∙ query_of-Either _
    ∙ ap (λ ns. query.Either (members_of (queries_of ns))) (sym c.as_slice-in-Either.ensures.value))
    refl
    (if_always _ c.in_ok-walks-in-Either.ensures.exact)

pub walks_of-loop-node-preserved : goal.walks_of-loop-node-preserved
walks_of-loop-node-preserved t c =
    let nodes = c.args.nodes.now in
    let i = c.loop-node.node-index in
    let q = query_of c.node-item.result in
    record {
      walks =
          walks_more _ _ _ q _
          _ _ _ _
          _ _ c.loop-node.invariant.walks
          (next_member _ i _ c.loop-node-test.true c.node-item.is) c.in_ok-push.ensures.items
          c.in_ok-walk.ensures.truths c.in_ok-walk.ensures.left c.walk_of.ensures.steps;
      exact =
          member_more (look_up_steps c.args.index.now.keys) (look_up_steps_of_all c.args.index.now.keys)
          _ _ _ (λ _ _. refl) q _
          _ _
          (next_member _ i _ c.loop-node-test.true c.node-item.is)
          c.in_ok-walk.ensures.exact c.loop-node.invariant.exact;
    }

pub walks_of-returns-in_err-walk-clause-steps : goal.walks_of-returns-in_err-walk-clause-steps
walks_of-returns-in_err-walk-clause-steps t c =
    let nodes = c.args.nodes.now in
    let i = c.loop-node.node-index in
    let q = query_of c.node-item.result in
    walks_steps _ _ _ q _
    _ _ _ _
    c.loop-node.invariant.walks (next_member _ i _ c.loop-node-test.true c.node-item.is)
    c.walk_of.ensures.steps

pub walks_of-returns-in_err-push-clause-steps : goal.walks_of-returns-in_err-push-clause-steps
walks_of-returns-in_err-push-clause-steps t c =
    let nodes = c.args.nodes.now in
    let i = c.loop-node.node-index in
    let q = query_of c.node-item.result in
    walks_steps _ _ _ q _
    _ _ _ _
    c.loop-node.invariant.walks (next_member _ i _ c.loop-node-test.true c.node-item.is)
    c.walk_of.ensures.steps

pub walks_of-returns-clause-truths : goal.walks_of-returns-clause-truths
walks_of-returns-clause-truths t c =
    let nodes = c.args.nodes.now in
    let i = c.loop-node.node-index in
    walks_told _ _ _ _
    _ _ c.loop-node.invariant.walks
    (no_member _ i (omega (arith, c.loop-node-test.false)))

pub walks_of-returns-clause-exact : goal.walks_of-returns-clause-exact
walks_of-returns-clause-exact t c =
    let i : ℕ = c.loop-node.node-index in
    no_member_more (look_up_steps c.args.index.now.keys) (look_up_steps_of_all c.args.index.now.keys)
    c.args.steps.now c.loop-node.steps _ refl (queries_of (drop i c.args.nodes.now))
    (no_member c.args.nodes.now i (omega (arith, c.loop-node-test.false))) c.loop-node.invariant.exact
