-- `KeyMap::add_unguessed` adds a number to the entry that was found, or a new entry, which no other one has the key of.
use Rattle.mail_index.proofs.Words.{◌≡◌, ◌+◌, ◌∙◌, arith, ap, sym, length, set}
use Rattle.mail_index.specs.Inside.KeyMaps.{in_key_order, with_added, KeyState}
use Rattle.mail_index.proofs.BuildLaws.InKeyOrder.{in_key_order-new, length-in_key_order}
use Rattle.mail_index.proofs.BuildLaws.TableLemmas.{map-tabled, map-noted, map-number, map-slot, map-inserted, keys-number, keys-inserted, long-number, long-new}
use Rattle.mail_index.proofs.build.key_map.KeyMap.add_unguessed.Goals as goal

pub prepare-requires-clause-fits : goal.prepare-requires-clause-fits
prepare-requires-clause-fits c = grind (arith, length-in_key_order)

pub invariant_of-self : goal.invariant_of-self
invariant_of-self c = map-tabled _ _ _ _ _ _ _ c.as_slice.ensures.value c.self.invariant c.prepare.ensures.step
    c.prepare.ensures.part c.prepare.ensures.kept

-- ---- a key that has an entry

pub invariant_of-self-in-AtEntry : goal.invariant_of-self-in-AtEntry
invariant_of-self-in-AtEntry c =
    let entry = rw c.as_slice-2.ensures.value at c.in-AtEntry.ensures in
    map-number _ _ _ _ _ _ _ _ entry.0 (map-noted _ _ _ _ _ (ap (λ v. v.items) c.note_recent.ensures.numbers)
    c.note_recent.ensures.left_out (map-tabled _ _ _ _ _ _ _ c.as_slice.ensures.value c.self.invariant
    c.prepare.ensures.step c.prepare.ensures.part c.prepare.ensures.kept)) c.add_number.ensures.ok
    c.add_number.ensures.err

pub returns-in-AtEntry-clause-ok : goal.returns-in-AtEntry-clause-ok
returns-in-AtEntry-clause-ok c =
    let entry = rw c.as_slice-2.ensures.value at c.in-AtEntry.ensures in
    rw (← c.self.view_is) (keys-number _ _ _ _ _ _ _ entry.0 entry.1 c.self.invariant.distinct c.add_number.ensures.ok)

pub returns-in-AtEntry-clause-fits : goal.returns-in-AtEntry-clause-fits
returns-in-AtEntry-clause-fits c = omega (
  arith,
  long-number _ _ _ _ _ c.add_number.ensures.ok c.add_number.ensures.err,
  ap (λ (s : KeyState). length s.keys) c.self.view_is,
  c.requires.fits,
)

-- ---- a new key with a slot

pub push-requires-clause-fits : goal.push-requires-clause-fits
push-requires-clause-fits c = omega (arith, length-in_key_order, ap (λ (s : KeyState). length s.keys) c.self.view_is)

pub invariant_of-self-in_err-number-in-InSlot : goal.invariant_of-self-in_err-number-in-InSlot
invariant_of-self-in_err-number-in-InSlot c =
    rw c.in_err-number-in-InSlot.ensures.err
    (map-tabled _ _ _ _ _ _ _ c.as_slice.ensures.value c.self.invariant c.prepare.ensures.step c.prepare.ensures.part
    c.prepare.ensures.kept)

pub returns-in_err-number-in-InSlot-clause-fault : goal.returns-in_err-number-in-InSlot-clause-fault
returns-in_err-number-in-InSlot-clause-fault c =
    let spot = rw c.as_slice-2.ensures.value at c.in-InSlot.ensures in
    let long = sym (ap (λ (s : KeyState). length (with_added c.args.key s.keys)) c.self.view_is)
    ∙ long-new _ _ c.args.key.number _ spot.0 in
    rw long (grind arith)

pub invariant_of-self-in-InSlot : goal.invariant_of-self-in-InSlot
invariant_of-self-in-InSlot c =
    let spot = rw (c.as_slice-2.ensures.value, c.of-hash.ensures) at c.in-InSlot.ensures in
    rw c.in_ok-number-in-InSlot.ensures.ok
    (map-slot _ _ _ _ _ _ _ _ _ (map-tabled _ _ _ _ _ _ _ c.as_slice.ensures.value c.self.invariant
    c.prepare.ensures.step c.prepare.ensures.part c.prepare.ensures.kept) spot.0 spot.1
    (ap (λ v. v.items) c.note_recent-in-InSlot.ensures.numbers ∙ c.put.ensures.numbers
    ∙ ap (set _ _) c.in_ok-number-in-InSlot.ensures.number)
    (c.note_recent-in-InSlot.ensures.left_out ∙ c.put.ensures.left_out))

pub returns-in_ok-number-in-InSlot-clause-ok : goal.returns-in_ok-number-in-InSlot-clause-ok
returns-in_ok-number-in-InSlot-clause-ok c =
    let spot = rw c.as_slice-2.ensures.value at c.in-InSlot.ensures in
    ap in_key_order c.in_ok-number-in-InSlot.ensures.ok ∙ in_key_order-new _ _ _ _ spot.0
    ∙ ap (λ (s : KeyState). with_added c.args.key s.keys) c.self.view_is

pub returns-in_ok-number-in-InSlot-clause-fits : goal.returns-in_ok-number-in-InSlot-clause-fits
returns-in_ok-number-in-InSlot-clause-fits c = omega (arith, length-in_key_order)

-- ---- a new key with a place in the order

pub insert-requires-clause-fits : goal.insert-requires-clause-fits
insert-requires-clause-fits c = omega (arith, length-in_key_order, ap (λ (s : KeyState). length s.keys) c.self.view_is)

pub invariant_of-self-in-InOrder : goal.invariant_of-self-in-InOrder
invariant_of-self-in-InOrder c =
    let spot = rw (c.as_slice-2.ensures.value, c.of-hash.ensures) at c.in-InOrder.ensures in
    map-inserted _ _ _ _ _ _ _ _ _ _ (map-tabled _ _ _ _ _ _ _ c.as_slice.ensures.value c.self.invariant
    c.prepare.ensures.step c.prepare.ensures.part c.prepare.ensures.kept) spot.0 spot.1 c.insert.ensures.step
    c.insert.ensures.part c.insert.ensures.ok c.insert.ensures.err c.insert.ensures.has

pub returns-in-InOrder-clause-ok : goal.returns-in-InOrder-clause-ok
returns-in-InOrder-clause-ok c =
    let spot = rw c.as_slice-2.ensures.value at c.in-InOrder.ensures in
    rw (← c.self.view_is) (keys-inserted _ _ _ _ _ _ spot.0 c.insert.ensures.ok)

pub returns-in-InOrder-clause-fits : goal.returns-in-InOrder-clause-fits
returns-in-InOrder-clause-fits c = omega (arith, length-in_key_order)

pub returns-in-InOrder-clause-fault : goal.returns-in-InOrder-clause-fault
returns-in-InOrder-clause-fault c =
    let spot = rw c.as_slice-2.ensures.value at c.in-InOrder.ensures in
    let long = sym (ap (λ (s : KeyState). length (with_added c.args.key s.keys)) c.self.view_is)
    ∙ long-new _ _ c.args.key.number _ spot.0 in
    rw long c.insert.ensures.fault
