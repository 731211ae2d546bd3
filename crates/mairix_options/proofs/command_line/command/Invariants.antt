-- Each turn adds the argument of one row. With the rows that are left, the command will be the whole one.
use Rattle.mairix_options.proofs.Words.{◌≡◌, map, drop, app_of, with_rule, command}
use Rattle.std.specs.Prelude.{fold}
use Rattle.mairix_options.specs.Inside.Arguments.{rule_in}
use Rattle.mairix_options.proofs.command_line.command.Given as goal

-- with the rows left, the command becomes the whole command
abbrev pub invariant-loop-argument : goal.invariant-loop-argument
invariant-loop-argument l = fold with_rule (app_of l.command) (map rule_in (drop l.argument-index l.argument-items))
    ≡ command
