-- `texts_of` returns all values of an argument, because clap gives those of its rows, in order; without any it returns
-- none.
use Rattle.mairix_options.proofs.Words.{arith, option_map, raw_values-rows}
use Rattle.mairix_options.proofs.command_line.texts_of.Goals as goal

pub returns : goal.returns
returns c = grind (arith, raw_values-rows, option_map)
