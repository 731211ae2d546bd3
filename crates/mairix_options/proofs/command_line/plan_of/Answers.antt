-- `plan_of` returns the plan or the refusal that the definition gives, by the two results of the parser.
use Rattle.mairix_options.proofs.Words.{◌∙◌, ap, subst, map, string_bytes, Result, kind_of, Error, ArgMatches, Gives, parse, plan_in, error_refusal}
use Rattle.mairix_options.proofs.Parses.{Gives-planned, Gives-refused}
use Rattle.mairix_options.proofs.command_line.plan_of.Goals as goal

pub returns-in-Ok : goal.returns-in-Ok
returns-in-Ok c = Gives-planned (map string_bytes c.args.words.now) _ c.in-Ok.matches c.planned.result c.parsed.ensures
    c.in-Ok.is c.planned.ensures

pub returns-in-Err : goal.returns-in-Err
returns-in-Err c =
    let words = map string_bytes c.args.words.now in
    let refuses = subst (λ (r : Result ArgMatches Error). Gives plan_in error_refusal r (parse words)) c.in-Err.is
    c.parsed.ensures in
    Gives-refused words (kind_of c.in-Err.error) c.fault_of_kind.result
    (c.fault_of_kind.ensures ∙ ap Rattle.mairix_options.specs.CommandLine.fault_of_kind c.kind.ensures) refuses
