-- `command` has the rules of all arguments, because adding the next argument leaves the rows after it.
use Rattle.mairix_options.proofs.Words.{◌≡◌, ◌<◌, ◌+◌, ◌∙◌, ◌∷◌, ℕ, suc, List, refl, ap, length, map, drop, get_or, false, app_of, with_rule, command}
use Rattle.std.specs.Prelude.{fold}
use Rattle.std.proofs.Common.{add-one, drop-cons}
use Rattle.clap.specs.Words.{AddsArg, rule_of}
use Rattle.clap.specs.declared.builder.arg.Arg.{Arg}
use Rattle.clap.specs.declared.builder.command.Command.{Command}
use Rattle.mairix_options.specs.Inside.Arguments.{rule_in}
use Rattle.mairix_options.specs.declared.command_line.Argument.{Argument}
use Rattle.mairix_options.proofs.command_line.command.Goals as goal

-- adding row i to a command leaves the rows after it
added : {old new : Command} {a : Arg} (rows : List Argument) (i : ℕ) (row : Argument) → i < length rows
    → AddsArg old a new → a.global ≡ false → rule_of a ≡ rule_in (get_or rows i row)
    → fold with_rule (app_of new) (map rule_in (drop (i + 1) rows))
    ≡ fold with_rule (app_of old) (map rule_in (drop i rows))
added {old} {new} {a} rows i row within adds local same =
    let first : map rule_in (drop i rows) ≡ rule_in (get_or rows i row) ∷ map rule_in (drop (suc i) rows) =
    ap (map rule_in) (drop-cons rows i row within) in
    rw (add-one, first, adds.shape local ∙ ap (with_rule (app_of old)) same) refl

pub loop-argument-preserved : goal.loop-argument-preserved
loop-argument-preserved c = added _ c.loop-argument.argument-index _ c.loop-argument-test.true c.in_ok-command.ensures
    c.arg.ensures.local c.arg.ensures.rule ∙ c.loop-argument.invariant
