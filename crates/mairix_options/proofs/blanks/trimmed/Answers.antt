-- `trimmed` drops the blanks at the front, and those at the end of what is left, as the definition does.
use Rattle.mairix_options.proofs.Words.{arith}
use Rattle.mairix_options.proofs.Trimming.{trimmed-parts}
use Rattle.mairix_options.proofs.blanks.trimmed.Goals as goal

pub returns : goal.returns
returns c = grind (arith, trimmed-parts)
