-- `bound_at` gives a right bound, because it compares the key with the slot there.
use Rattle.std.proofs.Common.{arith}
use Rattle.mail_index.proofs.Words.{key_at, lies_to}
use Rattle.mail_index.proofs.BuildLaws.KeyMapLemmas.{slot-at}
use Rattle.mail_index.proofs.build.key_search.bound_at.Goals as goal

pub returns-in-Greater-clause-above : goal.returns-in-Greater-clause-above
returns-in-Greater-clause-above c = grind (arith, lies_to, slot-at, key_at)
