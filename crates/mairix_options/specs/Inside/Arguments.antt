-- The parser's rules for the table of arguments.
use Rattle.std.specs.Prelude.{ℕ, length, Option, Some, None}
use Rattle.clap.specs.Words.{Rule, Text, new_rule}
use Rattle.mairix_options.specs.declared.command_line.Argument.{Argument}
use Rattle.mairix_options.specs.declared.command_line.Form.{Form}
use Rattle.mairix_options.specs.declared.command_line.Form.TheVariants.{Letter, Name, Word}

-- the letter of an argument, if it has one
abbrev pub short_in : Form → Option ℕ
short_in (Letter c) = Some c
short_in Name = None
short_in Word = None

-- the long name of an argument, which is its id, if it has one
abbrev pub long_in : Text → Form → Option Text
long_in id (Letter c) = None
long_in id Name = Some id
long_in id Word = None

-- the rule of an argument
abbrev pub rule_in : Argument → Rule
rule_in row = record (new_rule row.id.now) {
  short = short_in row.form;
  long = long_in row.id.now row.form;
  value_names = length row.values.now;
  action = Some row.action;
  required = row.required;
}
