-- `front_of_key` returns the number of a key's first eight bytes, because it fills short texts with zeros.
use Rattle.std.proofs.Common.{arith}
use Rattle.mail_index.proofs.BuildLaws.FrontLemmas.{all-bytes, padded-front}
use Rattle.mail_index.proofs.build.key_front.front_of_key.Goals as goal

pub returns : goal.returns
returns c = grind (arith, all-bytes, padded-front)
