-- `KeyMap::new` returns a map in order, because it has no entry.
use Rattle.std.proofs.Common.{arith}
use Rattle.std.proofs.lemmas.Grind.{common_steps}
unfoldable use Rattle.mail_index.specs.Inside.KeyMaps.{in_key_order}
use Rattle.mail_index.proofs.BuildLaws.KeyMapLemmas.{order-empty}
use Rattle.mail_index.proofs.build.key_map.KeyMap.new.Goals as goal

pub invariant_of-result : goal.invariant_of-result
invariant_of-result c = grind (arith, order-empty)

pub returns-clause-keys : goal.returns-clause-keys
unfolding in_key_order
returns-clause-keys c = grind (arith, common_steps)
