-- `KeyMap::in_order` gives all keys, because the order has the number of each entry.
use Rattle.std.proofs.Common.{arith}
use Rattle.mail_index.proofs.Words.{nat_tests}
use Rattle.mail_index.proofs.BuildLaws.InKeyOrder.{in_key_order-by}
use Rattle.mail_index.proofs.build.key_map.KeyMap.in_order.Goals as goal

pub returns : goal.returns
returns c =
    let all = in_key_order-by _ _ c.self.invariant.distinct c.self.invariant.step.sorts
    (λ i h. c.self.invariant.first i (grind (arith, nat_tests))) in
    grind arith
