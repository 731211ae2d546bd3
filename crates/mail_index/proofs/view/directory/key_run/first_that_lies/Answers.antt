-- `first_that_lies` halves the keys between two bounds, because sorted keys compare with a run in rising order.
use Rattle.mail_index.proofs.Words.{◌∙◌, ◌+◌, ◌-◌, ◌/◌, ◌<◌, ◌≤◌, ℕ, List, length, sym, ap, arith, Ordering, ordering_index, nat_cmp, is_lt, Key, no_key, key_at}
use Rattle.mail_index.specs.Inside.KeyRuns.{lies_to_run}
use Rattle.mail_index.proofs.ViewLaws.RunLemmas.{runs-rise, less_index, no_less_index}
use Rattle.mail_index.proofs.view.directory.key_run.first_that_lies.Goals as goal

pub loop-low-preserved-then-lt : goal.loop-low-preserved-then-lt
loop-low-preserved-then-lt c =
    let keys : List Key = c.args.directory.now in
    let middle : ℕ = c.loop-low.low + (c.loop-low.high - c.loop-low.low) / 2 in
    let i = c.loop-low.invariant in
    let inside : middle < length keys = omega (arith, i.within, c.loop-low-test.true) in
    let here : ordering_index (lies_to_run c.args.kind c.args.text.now (key_at keys middle)) < ordering_index
    c.args.least =
    less_index _ c.args.least (ap (λ (o : Ordering). is_lt (nat_cmp (ordering_index o) (ordering_index c.args.least)))
    (sym c.compare_to_run.ensures) ∙ sym c.lt.ensures ∙ c.if-lt.true) in
    record {
      sorted = i.sorted;
      order = omega (arith, c.loop-low-test.true);
      within = i.within;
      below = λ j lt. let rise = runs-rise c.args.kind c.args.text.now keys no_key j middle i.sorted (omega (arith, lt))
          inside in omega (arith, rise, here);
      above = i.above;
    }

pub loop-low-preserved : goal.loop-low-preserved
loop-low-preserved c =
    let keys : List Key = c.args.directory.now in
    let middle : ℕ = c.loop-low.low + (c.loop-low.high - c.loop-low.low) / 2 in
    let i = c.loop-low.invariant in
    let here : ordering_index c.args.least ≤ ordering_index
    (lies_to_run c.args.kind c.args.text.now (key_at keys middle)) =
    no_less_index _ c.args.least (ap (λ (o : Ordering). is_lt
    (nat_cmp (ordering_index o) (ordering_index c.args.least))) (sym c.compare_to_run.ensures)
    ∙ sym c.lt.ensures ∙ c.if-lt.false) in
    record {
      sorted = i.sorted;
      order = omega (arith, c.loop-low-test.true);
      within = omega (arith, i.within, c.loop-low-test.true);
      below = i.below;
      above = λ j le lt. let rise = runs-rise c.args.kind c.args.text.now keys no_key middle j i.sorted le lt
          in omega (arith, rise, here);
    }
