-- `threads_of` returns the list of threads: without links or numbers the numbers themselves, otherwise those with the
-- same roots.
use Rattle.mail_answer.proofs.Words.{◌≡◌, ◌∙◌, ◌⊎◌, nat_eq, [], length, get_or, inl, inr, sym, ap, subst, arith, length-map, list_any, eqb-true, LinkId, keys_of, each_number, AreThreads, AreThreadRoots}
use Rattle.mail_answer.proofs.CursorLaws.LookUpSteps.{if_always}
use Rattle.mail_answer.proofs.ThreadLaws.ChosenThreads.{ok_then, empty_is, no_keys, threads_without, chosen_by_marks}
use Rattle.mail_answer.proofs.threads.threads_of.Goals as goal
use Rattle.mail_answer.proofs.threads.threads_of.Goals.{then-is_empty-via-then-is_empty, then-is_empty-via-else-is_empty+then-is_none}

pub returns-then-is_empty-clause-threads : goal.returns-then-is_empty-clause-threads
returns-then-is_empty-clause-threads c =
    let none : (keys_of LinkId c.args.index.now.keys ≡ []) ⊎ (c.args.numbers.now ≡ []) =
    elim c.then-is_empty.branch [
      | then-is_empty-via-then-is_empty w ↦ inr
          (empty_is _ (eqb-true (length c.args.numbers.now) 0
          (sym c.is_empty.ensures ∙ w.if-is_empty.true)))
      | then-is_empty-via-else-is_empty+then-is_none w ↦ inl
          (no_keys _ (grind (arith, length-map)))
    ] in
    ok_then _ _
    _ c.from_slice.ensures.items
    (λ v same. subst (AreThreads c.args.index.now c.args.numbers.now) (sym same)
    (threads_without c.args.index.now _ none c.requires.rises c.requires.within))

pub returns-clause-threads : goal.returns-clause-threads
returns-clause-threads c =
    let t = c.args.index.now in
    let tells =
    subst (AreThreadRoots t) (sym c.as_slice.ensures.value) c.in_ok-roots.ensures.roots in
    let marks = ap (λ count. each_number count
    (λ r. list_any (λ n. nat_eq r (get_or c.as_slice.result.now n 0)) c.args.numbers.now)) tells.long in
    ok_then _ _ _ c.with_same_root.ensures
    (λ v are. chosen_by_marks t _ _ _ _ tells c.requires.within marks are)

pub returns-then-is_empty-clause-steps : goal.returns-then-is_empty-clause-steps
returns-then-is_empty-clause-steps c =
    if_always c.from_slice.result (record { rises = omega arith; most = omega arith })

pub returns-clause-steps : goal.returns-clause-steps
returns-clause-steps c =
    let taken = c.in_ok-roots.ensures.steps in
    if_always c.with_same_root.result (record { rises = omega (arith, taken); most = omega (arith, taken) })
