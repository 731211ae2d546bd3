-- `KeyHash::of` gives a hasher the number of the kind, and then the text.
use Rattle.std.proofs.Common.{rules, arith}
use Rattle.std.proofs.lemmas.Grind.{common_steps}
unfoldable use Rattle.mail_index.specs.Inside.KeyTables.{hash_of}
use Rattle.mail_index.proofs.build.key_hash.KeyHash.of.Goals as goal

pub returns : goal.returns
unfolding hash_of
returns c = first_of (search rules, grind (arith, common_steps))
