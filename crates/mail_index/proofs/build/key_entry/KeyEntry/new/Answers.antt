-- `KeyEntry::new` makes the entry of a key with one number, because the first posting follows the front.
use Rattle.std.proofs.Common.{arith}
use Rattle.mail_index.proofs.BuildLaws.EntryLemmas.{entry-new, key-new}
use Rattle.mail_index.proofs.build.key_entry.KeyEntry.new.Goals as goal

pub invariant_of-result : goal.invariant_of-result
invariant_of-result c = (
  entry-new _ _ _ _ _ _ c.in_ok-front.ensures c.leb128_of.ensures.bytes (omega arith),
  c.in_ok-front.ensures.long,
)

pub returns : goal.returns
returns c = key-new _ _ _ _ _ _ c.in_ok-front.ensures c.leb128_of.ensures.bytes (omega arith)
