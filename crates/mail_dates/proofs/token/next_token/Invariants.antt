-- The rest has the same tokens as the text. The loop ends because each turn makes the rest shorter.
use Rattle.mail_dates.proofs.Words.{◌≡◌, length, date_tokens}
use Rattle.mail_dates.proofs.token.next_token.Given as goal

abbrev pub invariant-loop-front : goal.invariant-loop-front
invariant-loop-front l = date_tokens l.text ≡ date_tokens l.rest

abbrev pub decreases-loop-front : goal.decreases-loop-front
decreases-loop-front l = length l.rest
