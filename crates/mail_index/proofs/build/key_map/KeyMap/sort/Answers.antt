-- `KeyMap::sort` puts all entries in order, which leaves the keys and the table as they are.
use Rattle.mail_index.proofs.Words.{◌≡◌, arith, length}
use Rattle.mail_index.proofs.BuildLaws.InKeyOrder.{length-in_key_order}
use Rattle.mail_index.proofs.BuildLaws.TableLemmas.{map-ordered, map-sorted}
use Rattle.mail_index.proofs.build.key_map.KeyMap.sort.Goals as goal

pub put_all_in_order-requires-clause-fits : goal.put_all_in_order-requires-clause-fits
put_all_in_order-requires-clause-fits c = grind (arith, length-in_key_order)

pub invariant_of-self : goal.invariant_of-self
invariant_of-self c = map-ordered _ _ _ _ _ _ c.as_slice.ensures.value c.self.invariant c.put_all_in_order.ensures.step
    c.put_all_in_order.ensures.part

pub invariant_of-self-2 : goal.invariant_of-self-2
invariant_of-self-2 c =
    let count : c.len-self-inside.result ≡ length c.self.inside.entries.items = grind arith in
    map-sorted _ _ _ _ _ _ _ c.as_slice.ensures.value count c.self.invariant c.put_all_in_order.ensures.step
    c.put_all_in_order.ensures.part c.in_ok-put_all_in_order.ensures.all
