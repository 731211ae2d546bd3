-- `Builder::add_prefetched` keeps a draft valid, because its keys stay in order and well-formed.
use Rattle.std.proofs.Common.{arith}
use Rattle.mail_index.proofs.BuildLaws.DraftLemmas.{listed-after}
use Rattle.mail_index.proofs.BuildLaws.KeyPlaces.{sorted-after}
use Rattle.mail_index.proofs.build.builder.Builder.add_prefetched.Goals as goal

pub invariant_of-self : goal.invariant_of-self
invariant_of-self c = grind (arith, sorted-after, listed-after)
