-- `next_token` returns the first token and the rest, by how the text begins: a parenthesis, nothing, or a run.
use Rattle.std.proofs.Common.{arith}
use Rattle.std.proofs.lemmas.Bool.Decides.{nat_tests}
use Rattle.mail_query.proofs.BooleanLaws.TokenLemmas.{tokens-open, tokens-close, tokens-nothing, tokens-run, run_counted, begins_run, run_end}
use Rattle.mail_query.proofs.boolean.token.next_token.Goals as goal

pub returns-in-Some-clause-token : goal.returns-in-Some-clause-token
returns-in-Some-clause-token c = grind (arith, tokens-open)

pub returns-in-Some-without_first-clause-token : goal.returns-in-Some-without_first-clause-token
returns-in-Some-without_first-clause-token c = grind (arith, tokens-close)

pub returns-then-is_empty-clause-token : goal.returns-then-is_empty-clause-token
returns-then-is_empty-clause-token c = grind (arith, nat_tests, tokens-nothing)

pub split_at-requires : goal.split_at-requires
split_at-requires c = grind (arith, run_counted, run_end)

pub returns-clause-token : goal.returns-clause-token
returns-clause-token c = grind (arith, nat_tests, begins_run, tokens-run, run_counted)
