-- `Listed::least_from` returns the least number from n on: its first number, or the next one of the list.
use Rattle.mail_answer.proofs.Words.{arith}
use Rattle.mail_answer.proofs.CursorLaws.Lists.{cut_drops, cut_first, cut_numbers}
use Rattle.mail_answer.proofs.cursor.listed.Listed.least_from.Goals as goal

pub invariant_of-self : goal.invariant_of-self
invariant_of-self c =
    cut_numbers _ _ _
    _ c.self.invariant
    c.first_from-self-inside.ensures.rest

pub returns-clause-rest : goal.returns-clause-rest
returns-clause-rest = grind (arith, cut_drops)

pub returns-clause-number : goal.returns-clause-number
returns-clause-number c =
    cut_first _ _ _
    _ _ c.self.invariant
    c.first_from-self-inside.ensures.rest c.first_from-self-inside.ensures.ended
