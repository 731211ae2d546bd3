-- `parsed` gives what the definition does for the words, because its command is that of the definition, which clap
-- follows.
use Rattle.mairix_options.proofs.Words.{◌≡◌, subst, map, string_bytes, List, IfOk, true, Text, FailsBy, HasMatchesOf, fault_of, is_simple_and_free}
use Rattle.clap.specs.Words.{App}
use Rattle.mairix_options.proofs.Parses.{Gives-parsed, free}
use Rattle.mairix_options.proofs.command_line.parsed.Goals as goal

pub returns : goal.returns
returns c =
    let words : List Text = map string_bytes c.args.words.now in
    let parse = c.try_get_matches_from in
    Gives-parsed words parse.result
    (subst (λ (a : App). IfOk parse.result (HasMatchesOf a words)) c.in_ok-command.ensures parse.ensures.matches)
    (subst (λ (a : App). is_simple_and_free a ≡ true → FailsBy (fault_of a words) parse.result) c.in_ok-command.ensures
    parse.ensures.kinds free)
