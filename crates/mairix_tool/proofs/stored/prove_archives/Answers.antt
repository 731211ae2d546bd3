-- `prove_archives` finds the first altered archive, by the result of the verification.
use Rattle.mairix_tool.proofs.Words.{arith}
use Rattle.mairix_tool.proofs.stored.prove_archives.Goals as goal

pub returns-clause-proved : goal.returns-clause-proved
returns-clause-proved g c = grind arith
