-- `Sheet::push` adds bytes to the answer, because they are gathered and sent once there are enough.
use Rattle.mail_answer.proofs.Words.{refl, Some, arith}
use Rattle.mail_answer.proofs.OutputLaws.SheetLemmas.{gathered_went, writes_nothing}
use Rattle.mail_answer.proofs.output.sheet.Sheet.push.Goals as goal

pub returns-in_err-extend-clause-writes :
    goal.returns-in_err-extend-clause-writes
returns-in_err-extend-clause-writes g c =
    writes_nothing (g.O.Out.taken c.args.out.now) _ _ (Some c.args.bytes.now) _
    c.from_residual.ensures.0 refl

pub returns-clause-writes : goal.returns-clause-writes
returns-clause-writes = grind (arith, gathered_went)
