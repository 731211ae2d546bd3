-- `text_of` returns the first value of an argument, because the first that clap gives is the first of its rows.
use Rattle.mairix_options.proofs.Words.{◌∙◌, found_of, first_value-rows}
use Rattle.mairix_options.proofs.command_line.text_of.Goals as goal

pub returns : goal.returns
returns c = c.get_str.ensures ∙ first_value-rows (found_of c.args.matches.now) c.args.id.now
