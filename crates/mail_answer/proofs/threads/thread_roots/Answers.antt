-- `thread_roots` gives a root for each message, and messages in one thread have the same one.
use Rattle.mail_answer.proofs.Words.{◌≡◌, ◌∙◌, ◌+◌, ◌<◌, ℕ, List, [], ◌∷◌, ◌++◌, length, sym, ap, subst, arith, range_with_len, map-id, map-range_with_len_more, AllByRecursion, LeadsBack, add_steps, any_text, numbers_passing}
use Rattle.mail_answer.proofs.CursorLaws.Texts.{all_left}
use Rattle.mail_answer.proofs.ThreadLaws.RootLemmas.{single_back, link_keys_below, threads_told, written_over}
use Rattle.mail_answer.proofs.threads.thread_roots.Goals as goal

one_more : (n : ℕ) (xs ys : List ℕ) → xs ≡ range_with_len 0 n → ys ≡ xs ++ n ∷ [] → ys ≡ range_with_len 0 (n + 1)
one_more n xs ys front whole =
    whole ∙ ap (λ ms. ms ++ n ∷ []) (front ∙ sym (map-id (range_with_len 0 n)))
    ∙ sym (map-range_with_len_more _ 0 n n (omega arith)) ∙ map-id (range_with_len 0 (n + 1))

pub loop-number-preserved : goal.loop-number-preserved
loop-number-preserved c = one_more _ _ _
    c.loop-number.invariant c.in_ok-push.ensures.items

pub unite_by_keys-requires-clause-back : goal.unite_by_keys-requires-clause-back
unite_by_keys-requires-clause-back c = single_back c.as_mut_slice.result.now c.message_count-count.result
    (c.as_mut_slice.ensures.value ∙ c.loop-number.invariant ∙ ap (range_with_len 0) (omega arith))

pub unite_by_keys-requires-clause-within : goal.unite_by_keys-requires-clause-within
unite_by_keys-requires-clause-within c =
    let single =
    c.as_mut_slice.ensures.value ∙ c.loop-number.invariant ∙ ap (range_with_len 0) (omega arith)
    ∙ ap (range_with_len 0) c.message_count-count.ensures.count in
    subst (λ ks. AllByRecursion
    (λ k. AllByRecursion (λ n. n < length c.as_mut_slice.result.now) k.1) ks)
    (sym c.keys-keys.ensures)
    (link_keys_below _ _ c.message_count-count.ensures.formed single)

pub flatten-requires : goal.flatten-requires
flatten-requires c =
    let written = written_over _ _ _
    (c.unite_by_keys.ensures.unites.long ∙ c.as_mut_slice.ensures.len) in
    subst LeadsBack (sym (c.as_mut_slice-2.ensures.value ∙ written))
    (c.unite_by_keys.ensures.unites.back (single_back c.as_mut_slice.result.now c.message_count-count.result
    (c.as_mut_slice.ensures.value ∙ c.loop-number.invariant ∙ ap (range_with_len 0) (omega arith))))

pub returns-clause-roots : goal.returns-clause-roots
returns-clause-roots c =
    let t = c.args.index.now in
    let single = c.as_mut_slice.ensures.value
    ∙ c.loop-number.invariant ∙ ap (range_with_len 0) (omega arith)
    ∙ ap (range_with_len 0) c.message_count-count.ensures.count in
    let joined = c.as_mut_slice-2.ensures.value
    ∙ written_over _ _ _
    (c.unite_by_keys.ensures.unites.long ∙ c.as_mut_slice.ensures.len) in
    rw (written_over _ _ _
    (c.flatten.ensures.shortened.long ∙ c.as_mut_slice-2.ensures.len))
    (threads_told t _ _ _ single
    (rw joined (rw c.keys-keys.ensures at c.unite_by_keys.ensures.unites)) c.flatten.ensures.shortened
    c.flatten.ensures.flat)

pub returns-clause-steps : goal.returns-clause-steps
returns-clause-steps c =
    c.unite_by_keys.ensures.steps
    ∙ ap (λ ks. add_steps c.args.steps.now (numbers_passing any_text ks)) c.keys-keys.ensures
    ∙ ap (add_steps c.args.steps.now) (all_left _)

pub returns-clause-few : goal.returns-clause-few
returns-clause-few c = omega (arith, (returns-clause-roots c).long, c.message_count-count.ensures.count)
