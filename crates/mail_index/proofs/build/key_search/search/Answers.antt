-- `search` halves the slots between two bounds, and each comparison keeps the bounds right.
use Rattle.mail_index.proofs.Words.{◌≡◌, ◌∙◌, ◌+◌, ◌-◌, ◌/◌, ◌<◌, ℕ, length, sym, ap, arith, key_at, lies_to}
use Rattle.mail_index.specs.Inside.KeyMaps.{slot_keys}
use Rattle.mail_index.proofs.BuildLaws.KeyMapLemmas.{slots-long, slot-at, among-slot}
use Rattle.mail_index.proofs.build.key_search.search.Goals as goal

pub loop-low-preserved-in-Less : goal.loop-low-preserved-in-Less
loop-low-preserved-in-Less c =
    let middle : ℕ = c.loop-low.low + (c.loop-low.high - c.loop-low.low) / 2 in
    let long = slots-long c.args.entries.now c.args.slots.now in
    let inside : middle < length c.args.slots.now = omega arith in
    record {
      order = omega arith;
      within = c.loop-low.invariant.within;
      below = λ j e.
          let same : j ≡ middle = omega arith in
          ap (λ (i : ℕ). lies_to c.args.kind c.args.text.now (key_at (slot_keys c.args.entries.now c.args.slots.now) i))
          same ∙ ap (lies_to c.args.kind c.args.text.now) (slot-at _ _ _ _ inside) ∙ sym c.in-Less.ensures;
      above = c.loop-low.invariant.above;
    }

pub loop-low-preserved : goal.loop-low-preserved
loop-low-preserved c = grind (arith, slots-long, lies_to, slot-at)

pub returns-clause-place : goal.returns-clause-place
returns-clause-place c =
    let end : c.loop-low.low ≡ c.loop-low.high = omega arith in
    record {
      within = omega arith;
      below = c.loop-low.invariant.below;
      above = λ lt. ap (λ (i : ℕ). lies_to c.args.kind c.args.text.now
          (key_at (slot_keys c.args.entries.now c.args.slots.now) i)) end ∙ c.loop-low.invariant.above (omega arith);
    }

pub returns-in-Equal-clause-among : goal.returns-in-Equal-clause-among
returns-in-Equal-clause-among c =
    let middle : ℕ = c.loop-low.low + (c.loop-low.high - c.loop-low.low) / 2 in
    let inside : middle < length c.args.slots.now = omega (arith, slots-long) in
    among-slot _ _ _ inside
