-- `Postings::next_at_least` drops the numbers below n one after another, each with a step.
use Rattle.mail_index.proofs.Words.{◌<◌, ◌≡◌, ◌∙◌, ◌-◌, ◌++◌, ℕ, suc, List, [], ◌∷◌, length, sym, ap, arith, append_assoc, length-append, add_steps}
use Rattle.mail_index.proofs.ViewLaws.StepLemmas.{add_steps-none, add_steps-one}
use Rattle.mail_index.proofs.Items.{all-snoc}
use Rattle.mail_index.proofs.view.postings.Postings.next_at_least.Goals as goal

pub loop-number-init : goal.loop-number-init
loop-number-init c = grind (arith, add_steps-none, add_steps)

pub loop-number-preserved : goal.loop-number-preserved
loop-number-preserved c =
    let sofar = c.loop-number.invariant.split in
    let rest = c.next.new.self in
    let n = c.in-Some.number in
    let all = sofar.2 ∙ ap (λ (l : List ℕ). sofar.0 ++ l) c.in-Some.ensures.0 ∙ sym (append_assoc sofar.0 (n ∷ []) rest)
    in
    let count : suc (length c.args.self.now - length c.loop-number.self) ≡ length c.args.self.now - length rest =
    omega (arith, ap length sofar.2, ap length c.in-Some.ensures.0, length-append sofar.0 c.loop-number.self) in
    record {
      split = (
        sofar.0 ++ n ∷ [],
        all-snoc _ _ n sofar.1 (omega arith),
        all,
      );
      steps = c.in-Some.ensures.1 ∙ ap (λ (s : ℕ). add_steps s 1) c.loop-number.invariant.steps ∙ add_steps-one _ _
          ∙ ap (add_steps c.args.steps.now) count;
    }
