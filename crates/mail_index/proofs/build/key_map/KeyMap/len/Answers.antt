-- `KeyMap::len` counts the entries, since putting them in order keeps their number.
use Rattle.std.proofs.Common.{arith}
use Rattle.mail_index.proofs.BuildLaws.InKeyOrder.{length-in_key_order}
use Rattle.mail_index.proofs.build.key_map.KeyMap.len.Goals as goal

pub returns : goal.returns
returns c = grind (arith, length-in_key_order)
