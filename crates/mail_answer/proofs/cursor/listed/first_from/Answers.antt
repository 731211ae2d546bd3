-- `first_from` drops the numbers below n: the first of the list, and those that the list itself drops.
use Rattle.mail_answer.proofs.Words.{◌∙◌, sym}
use Rattle.mail_answer.proofs.CursorLaws.Lists.{cut_more}
use Rattle.mail_answer.proofs.cursor.listed.first_from.Goals as goal

pub returns-clause-rest : goal.returns-clause-rest
returns-clause-rest c =
    cut_more _ _ _ _ _
    (sym c.is_before.ensures ∙ c.if-not-is_before.false) c.requires c.next_at_least.ensures.number
