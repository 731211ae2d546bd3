-- `Cursor::next_at_least` returns the least number from n on, because its walk gives this one first.
use Rattle.mail_answer.proofs.Words.{arith}
use Rattle.mail_answer.proofs.CursorLaws.Numbers.{within_still, takes_none, takes_one}
use Rattle.mail_answer.proofs.cursor.Cursor.next_at_least.Goals as goal

pub returns-in_err-number-clause-number : goal.returns-in_err-number-clause-number
returns-in_err-number-clause-number = grind (arith, takes_none)

pub returns-clause-number : goal.returns-clause-number
returns-clause-number c =
    rw (← c.self.view_is)
    (takes_one _ _ _ _ _
    _ _ c.max.ensures c.in_ok-number.ensures.rest
    c.in_ok-number.ensures.number
    (within_still _ _ _ _
    c.in_ok-number.ensures.rest c.self.invariant c.in_ok-number.number c.in_ok-number.ensures.number.0))
