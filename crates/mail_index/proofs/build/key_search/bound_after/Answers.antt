-- `bound_after` gives a right bound, because it compares the key with the slot before it.
use Rattle.mail_index.proofs.Words.{◌≡◌, ◌∙◌, ℕ, sym, ap, arith, key_at, lies_to}
use Rattle.mail_index.specs.declared.build.key_front.Fronted.{Fronted}
use Rattle.mail_index.specs.Inside.KeyMaps.{slot_keys}
use Rattle.mail_index.proofs.BuildLaws.KeyMapLemmas.{slot-at}
use Rattle.mail_index.proofs.build.key_search.bound_after.Goals as goal

pub returns-in-Less : goal.returns-in-Less
returns-in-Less c = record {
  below = λ j e.
      let same : j ≡ c.args.smaller = omega arith in
      ap (λ (i : ℕ). lies_to c.args.kind c.args.text.now (key_at (slot_keys c.args.entries.now c.args.slots.now) i))
      same ∙ ap (lies_to c.args.kind c.args.text.now)
      (slot-at _ _ _ _ c.in-Some.ensures.lookup.3.0
      ∙ sym (ap (λ (slot : Fronted). key_at c.args.entries.now slot.number) c.in-Some.ensures.lookup.1))
      ∙ sym c.in-Less.ensures;
}
