-- `planned` returns the plan of these matches, field by field, or refuses two formats, as the definition does.
use Rattle.mairix_options.proofs.Words.{arith}
use Rattle.mairix_options.proofs.command_line.planned.Goals as goal

pub returns : goal.returns
returns c = grind arith
