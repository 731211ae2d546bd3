-- `KeyMap::add` adds a number to the entry that was guessed, which has the key.
use Rattle.mail_index.proofs.Words.{◌≡◌, arith, ap, length}
use Rattle.mail_index.specs.Inside.KeyMaps.{KeyState}
use Rattle.mail_index.proofs.BuildLaws.TableLemmas.{map-number, map-noted, keys-number, long-number}
use Rattle.mail_index.proofs.build.key_map.KeyMap.add.Goals as goal

pub invariant_of-self : goal.invariant_of-self
invariant_of-self c =
    let entry = rw c.as_slice.ensures.value at c.in-Some.ensures in
    map-number _ _ _ _ _ _ _ _ entry.0 (map-noted _ _ _ _ _ (ap (λ v. v.items) c.note_recent.ensures.numbers)
    c.note_recent.ensures.left_out c.self.invariant) c.add_number.ensures.ok c.add_number.ensures.err

pub returns-in-Some-clause-ok : goal.returns-in-Some-clause-ok
returns-in-Some-clause-ok c =
    let entry = rw c.as_slice.ensures.value at c.in-Some.ensures in
    rw (← c.self.view_is) (keys-number _ _ _ _ _ _ _ entry.0 entry.1 c.self.invariant.distinct c.add_number.ensures.ok)

pub returns-in-Some-clause-fits : goal.returns-in-Some-clause-fits
returns-in-Some-clause-fits c = omega (
  arith,
  long-number _ _ _ _ _ c.add_number.ensures.ok c.add_number.ensures.err,
  ap (λ (s : KeyState). length s.keys) c.self.view_is,
  c.requires.fits,
)
