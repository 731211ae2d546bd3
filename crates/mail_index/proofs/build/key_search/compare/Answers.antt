-- `compare` returns the order of the keys, because fronts that differ decide it.
use Rattle.std.proofs.Common.{arith}
use Rattle.mail_index.proofs.BuildLaws.FrontLemmas.{lies-as-fronts}
use Rattle.mail_index.proofs.build.key_search.compare.Goals as goal

pub returns-in_default : goal.returns-in_default
returns-in_default c = grind (arith, lies-as-fronts)
