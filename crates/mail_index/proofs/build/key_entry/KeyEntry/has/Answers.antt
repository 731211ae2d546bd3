-- `KeyEntry::has` finds a number only if adding it would change nothing, because it is below the end.
use Rattle.std.proofs.Common.{arith}
use Rattle.mail_index.proofs.Words.{ranked}
use Rattle.mail_index.proofs.BuildLaws.EntryLemmas.{key-same}
use Rattle.mail_index.proofs.build.key_entry.KeyEntry.has.Goals as goal

pub returns-then-number-self : goal.returns-then-number-self
returns-then-number-self c = grind (arith, key-same, ranked)
