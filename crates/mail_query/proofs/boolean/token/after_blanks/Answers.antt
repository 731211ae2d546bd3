-- `after_blanks` keeps the tokens of a text, because blanks at the front belong to none. It cuts between characters.
use Rattle.mail_query.proofs.Words.{arith}
use Rattle.mail_query.proofs.BooleanLaws.TokenLemmas.{blanks_counted, blanks_end, tokens-blanks, no_blank_left}
use Rattle.mail_query.proofs.boolean.token.after_blanks.Goals as goal

pub split_at-requires : goal.split_at-requires
split_at-requires c = grind (arith, blanks_counted, blanks_end)

pub returns-clause-tokens : goal.returns-clause-tokens
returns-clause-tokens c = grind (arith, blanks_counted, tokens-blanks)

pub returns-clause-none : goal.returns-clause-none
returns-clause-none c = grind (arith, blanks_counted, no_blank_left)
