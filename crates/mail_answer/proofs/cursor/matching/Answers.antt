-- `matching` takes the steps of a new cursor, and then at most those that are left to it.
use Rattle.mail_answer.proofs.Words.{arith}
use Rattle.mail_answer.proofs.CursorLaws.LookUpSteps.{if_always}
use Rattle.mail_answer.proofs.cursor.matching.Goals as goal

pub returns-clause-steps : goal.returns-clause-steps
returns-clause-steps c =
    let made = c.in_ok-cursor.ensures in
    let spent = c.numbers_of.ensures.steps in
    if_always c.numbers_of.result (record {
      rises = omega (arith, made.exact, spent.rises);
      most = omega (arith, made.exact, made.left, spent.most);
    })
