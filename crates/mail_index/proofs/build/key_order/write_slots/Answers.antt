-- `write_slots` gives each entry a slot at the place of its number.
use Rattle.std.proofs.Common.{arith}
use Rattle.mail_index.proofs.Words.{◌≡◌, ◌+◌, ◌∙◌, [], ◌∷◌, ◌++◌, length, ap, sym, length-append, no_key}
use Rattle.mail_index.specs.declared.build.key_front.Fronted.{Fronted}
use Rattle.mail_index.specs.Inside.KeyFronts.{IsFronted}
use Rattle.mail_index.proofs.BuildLaws.SortedSlots.{numbered-more}
use Rattle.mail_index.proofs.Items.{all-snoc, other-default}
use Rattle.mail_index.proofs.build.key_order.write_slots.Goals as goal

pub loop-number-preserved : goal.loop-number-preserved
loop-number-preserved c =
    let slot : Fronted = record { number = c.loop-number.number; front = c.front_of_key.result } in
    let items : c.push_reserved.new.self.items ≡ c.loop-number.slots.items ++ slot ∷ [] = grind arith in
    let here = c.index-entries-number.is ∙ other-default _ _ c.index-entries-number.result no_key
    c.loop-number-test.true in
    let front = rw (c.kind.ensures, c.text.ensures.text, here) at c.front_of_key.ensures in
    let fronted : IsFronted c.args.entries.now slot = record { within = c.loop-number-test.true; front = front } in
    record {
      long = ap length items ∙ length-append _ _ ∙ ap (λ n. n + 1) c.loop-number.invariant.long;
      room = grind arith;
      numbers = rw items (numbered-more _ _ c.loop-number.invariant.numbers (sym c.loop-number.invariant.long));
      fronted = rw items (all-snoc _ _ _ c.loop-number.invariant.fronted fronted);
    }
