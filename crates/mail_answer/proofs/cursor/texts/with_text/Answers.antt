-- `with_text` gives the messages that have a fitting text, kind by kind.
use Rattle.mail_answer.proofs.Words.{◌∙◌, ℕ, Bool, compared_by, List, [], ◌∷◌, ◌++◌, map, sym, arith, Key, cases_lt, both_ways, To, Kind, Text, OwnId, text_kinds, fits, kinds_in, looked_up_by}
use Rattle.mail_answer.proofs.CursorLaws.Texts.{some_of_all, word_past, kinds_more, kinds_steps, kinds_skip, kinds_next, all_kinds}
use Rattle.mail_answer.proofs.CursorLaws.LookUpSteps.{if_always, all_compared, compared_more, compared_skip}
use Rattle.mail_answer.proofs.cursor.texts.with_text.Goals as goal
use Rattle.mail_answer.proofs.cursor.texts.with_text.Goals.{then-is_in+in_ok-push_kind, else-is_in}

pub loop-kind-preserved : goal.loop-kind-preserved
loop-kind-preserved c =
    let items : List Kind = map Text text_kinds ++ OwnId ∷ [] in
    let i : ℕ = c.loop-kind.kind-index in
    let passes : List ℕ → Bool = fits c.args.fit c.args.text.now in
    let keys : List Key = c.args.index.now.keys in
    elim c.if-is_in.branch [
      | then-is_in+in_ok-push_kind w ↦
          rw (w.members-is, w.steps-is)
          (record {
            kinds =
                kinds_more passes keys (looked_up_by c.args.fit) (kinds_in c.args.kinds) [] c.args.steps.now _ _
                c.loop-kind.members.items w.push_kind.new.members.items c.loop-kind.steps
                w.push_kind.new.steps
                (kinds_next passes keys (looked_up_by c.args.fit) (kinds_in c.args.kinds) [] c.args.steps.now
                c.args.kinds items i (Text To) c.loop-kind.members.items c.loop-kind.steps
                c.loop-kind-test.true (sym c.is_in.ensures ∙ w.if-is_in.true) c.loop-kind.invariant.kinds)
                (rw w.as_bytes.ensures at w.in_ok-push_kind.ensures.joins) w.push_kind.ensures.steps;
            exact =
                compared_more (compared_by c.args.fit c.args.text.now keys) c.args.kinds items i (Text To)
                c.args.steps.now c.loop-kind.steps w.push_kind.new.steps _ c.loop-kind-test.true
                (sym c.is_in.ensures ∙ w.if-is_in.true)
                (rw w.as_bytes.ensures at w.push_kind.ensures.exact) c.loop-kind.invariant.exact;
          })
      | else-is_in w ↦
          rw (w.members-is, w.steps-is)
          (record {
            kinds = kinds_skip passes keys (looked_up_by c.args.fit) (kinds_in c.args.kinds) [] c.args.steps.now
                c.args.kinds items i (Text To) c.loop-kind.members.items c.loop-kind.steps c.loop-kind-test.true
                (sym c.is_in.ensures ∙ w.if-is_in.false) c.loop-kind.invariant.kinds;
            exact = compared_skip (compared_by c.args.fit c.args.text.now keys) c.args.kinds items i (Text To)
                c.args.steps.now c.loop-kind.steps c.loop-kind.steps _ c.loop-kind-test.true
                (sym c.is_in.ensures ∙ w.if-is_in.false) c.loop-kind.invariant.exact;
          })
    ]

pub returns-in_err-push_kind-clause-steps : goal.returns-in_err-push_kind-clause-steps
returns-in_err-push_kind-clause-steps c =
    let items = map Text text_kinds ++ OwnId ∷ [] in
    let passes = fits c.args.fit c.args.text.now in
    let keys = c.args.index.now.keys in
    kinds_steps _ _ _ _ _ _ _ _
    _ _ _
    (kinds_next _ _ _ _ _ _ _
    _ _ _ _ _ c.loop-kind-test.true
    (sym c.is_in.ensures ∙ c.if-is_in.true) c.loop-kind.invariant.kinds)
    c.push_kind.ensures.steps

pub along_some-requires : goal.along_some-requires
along_some-requires c = let all = all_kinds _ _
    _ _ _ _ _
    _ c.loop-kind-test.false c.loop-kind.auto.kind-index-end c.loop-kind.invariant.kinds
    in grind (arith, all.0, some_of_all, word_past, cases_lt, both_ways)

pub returns-clause-truths : goal.returns-clause-truths
returns-clause-truths c = let all = all_kinds _ _
    _ _ _ _ _
    _ c.loop-kind-test.false c.loop-kind.auto.kind-index-end c.loop-kind.invariant.kinds
    in grind (arith, all.0, some_of_all)

pub returns-clause-left : goal.returns-clause-left
returns-clause-left c = let all = all_kinds _ _
    _ _ _ _ _
    _ c.loop-kind-test.false c.loop-kind.auto.kind-index-end c.loop-kind.invariant.kinds
    in grind (arith, all.1)

pub returns-clause-steps : goal.returns-clause-steps
returns-clause-steps c = (all_kinds _ _
    _ _ _ _ _
    _ c.loop-kind-test.false c.loop-kind.auto.kind-index-end c.loop-kind.invariant.kinds).2

pub returns-clause-exact : goal.returns-clause-exact
returns-clause-exact c =
    if_always _
    (all_compared _ _
    _ _ _ _ c.loop-kind-test.false
    c.loop-kind.auto.kind-index-end c.loop-kind.invariant.exact)
