-- `unite_all` joins the trees of all these messages, message by message.
use Rattle.mail_answer.proofs.Words.{◌∙◌, ◌<◌, ◌∷◌, length, sym, ap, subst, add_steps, AllByRecursion, Unites, AreBothAmong}
use Rattle.mail_index.proofs.ViewLaws.StepLemmas.{add_steps-more}
use Rattle.mail_answer.proofs.ThreadLaws.JoinLemmas.{united_one, united_more}
use Rattle.mail_answer.proofs.threads.forest.unite_all.Goals as goal

pub loop-number-preserved : goal.loop-number-preserved
loop-number-preserved c =
    let p = c.loop-number.parents in
    let first = c.in-Some.first in
    let n = c.in-Some-next.number in
    let rest = c.next-in-loop-number.new.self in
    let split = c.in-Some-next.ensures.0 in
    let within =
    subst (λ ns. AllByRecursion (λ m. m < length c.args.parents.now) ns) split
    c.loop-number.invariant.within in
    record {
      back = c.unite.ensures.back c.loop-number.invariant.back;
      first_within = c.loop-number.invariant.first_within;
      within = within.1;
      united = λ later given.
          c.loop-number.invariant.united later
          (subst (λ ns. Unites (AreBothAmong (first ∷ ns)) p later) (sym split)
          (united_more p _ _ _ n _ c.unite.ensures given));
      counted =
          ap (λ s. add_steps s (length rest)) c.in-Some-next.ensures.1
          ∙ add_steps-more _ _
          ∙ ap (λ ns. add_steps c.loop-number.steps (length ns)) (sym split)
          ∙ c.loop-number.invariant.counted;
    }

pub returns-in_default-next-clause-unites : goal.returns-in_default-next-clause-unites
returns-in_default-next-clause-unites c =
    let p = c.loop-number.parents in
    let first = c.in-Some.first in
    let none = c.in_default-next.ensures.0 in
    let whole = c.in-Some.ensures.0 in
    subst (λ ns. Unites (AreBothAmong ns) c.args.parents.now p) (sym whole)
    (c.loop-number.invariant.united p (subst (λ ns. Unites (AreBothAmong (first ∷ ns)) p p) (sym none)
    (united_one p _)))
