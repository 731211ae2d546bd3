-- `look_up` halves the keys between two bounds, because in sorted keys all before a lower one are lower.
use Rattle.mail_index.proofs.Words.{◌∙◌, ◌+◌, ◌-◌, ◌/◌, ◌<◌, ℕ, length, sym, ap, arith, add_steps, lies_to, comparisons, comparisons_within, key_at, no_key}
use Rattle.mail_index.specs.Inside.KeyRuns.{keys_between}
use Rattle.mail_index.proofs.ViewLaws.StepLemmas.{add_steps-none, add_steps-more}
use Rattle.mail_index.proofs.ViewLaws.LookUpLemmas.{before-less, after-greater, numbers_at-met, numbers_at-none}
use Rattle.mail_index.proofs.ViewLaws.RunLemmas.{between-none}
use Rattle.mail_index.proofs.ViewLaws.Comparisons.{compared, comparisons-few}
use Rattle.mail_index.proofs.view.look_up.look_up.Goals as goal

pub loop-low-preserved-in-Less : goal.loop-low-preserved-in-Less
loop-low-preserved-in-Less c =
    let keys = c.args.keys.now.directory in
    let middle : ℕ = c.loop-low.low + (c.loop-low.high - c.loop-low.low) / 2 in
    let i = c.loop-low.invariant in
    let inside : middle < length keys = omega arith in
    let lies = sym c.compare.ensures.order ∙ c.in-Less.is in
    record {
      sorted = i.sorted;
      order = omega arith;
      within = i.within;
      below = λ j lt. before-less _ _ _ _ _ j i.sorted inside lies (omega arith);
      above = i.above;
      steps =
          let met = compared _ _ _ _ _ _ _ _ c.loop-low-test.true i.within i.steps.1 lies in
          let rest = comparisons_within met.fewer c.args.kind c.args.text.now
          (keys_between (middle + 1) c.loop-low.high keys) in (
            met.fewer,
            omega arith,
            ap (λ (n : ℕ). add_steps n rest) c.compare.ensures.steps ∙ add_steps-more _ _
                ∙ ap (add_steps c.loop-low.steps) (sym met.counted) ∙ i.steps.2,
          );
    }

pub loop-low-preserved : goal.loop-low-preserved
loop-low-preserved c =
    let keys = c.args.keys.now.directory in
    let middle : ℕ = c.loop-low.low + (c.loop-low.high - c.loop-low.low) / 2 in
    let i = c.loop-low.invariant in
    let lies = sym c.compare.ensures.order ∙ c.in-Greater.is in
    record {
      sorted = i.sorted;
      order = omega arith;
      within = omega arith;
      below = i.below;
      above = λ j le lt. after-greater _ _ _ _ _ j i.sorted lies le lt;
      steps =
          let met = compared _ _ _ _ _ _ _ _ c.loop-low-test.true i.within i.steps.1 lies in
          let rest = comparisons_within met.fewer c.args.kind c.args.text.now (keys_between c.loop-low.low middle keys)
          in (
            met.fewer,
            omega arith,
            ap (λ (n : ℕ). add_steps n rest) c.compare.ensures.steps ∙ add_steps-more _ _
                ∙ ap (add_steps c.loop-low.steps) (sym met.counted) ∙ i.steps.2,
          );
    }

pub returns-in-Equal-clause-numbers : goal.returns-in-Equal-clause-numbers
returns-in-Equal-clause-numbers c = grind (arith, lies_to, key_at, numbers_at-met, no_key)

pub returns-in-Equal-clause-exact : goal.returns-in-Equal-clause-exact
returns-in-Equal-clause-exact c =
    let keys = c.args.keys.now.directory in
    let middle : ℕ = c.loop-low.low + (c.loop-low.high - c.loop-low.low) / 2 in
    let i = c.loop-low.invariant in
    let lies = sym c.compare.ensures.order ∙ c.in-Equal.is in
    let met = compared _ _ _ _ _ _ _ _ c.loop-low-test.true i.within i.steps.1 lies in
    c.compare.ensures.steps ∙ ap (add_steps c.loop-low.steps) (sym met.counted) ∙ i.steps.2

pub returns-in-Equal-clause-steps : goal.returns-in-Equal-clause-steps
returns-in-Equal-clause-steps c = grind (arith, comparisons, comparisons-few, returns-in-Equal-clause-exact)

pub returns-clause-numbers : goal.returns-clause-numbers
returns-clause-numbers c =
    let i = c.loop-low.invariant in
    c.none.ensures ∙ sym (numbers_at-none _ _ _ _ _ i.below (λ j le lt. i.above j (omega arith) lt))

pub returns-clause-exact : goal.returns-clause-exact
returns-clause-exact c = grind (arith, comparisons_within, between-none, add_steps-none, add_steps)

pub returns-clause-steps : goal.returns-clause-steps
returns-clause-steps c = grind (arith, comparisons, comparisons-few, returns-clause-exact)
