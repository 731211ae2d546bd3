-- `Wanted::of_plan` returns what the definition gives, because it reads rcfile and query as this does.
use Rattle.mairix_tool.proofs.Words.{arith}
use Rattle.mairix_tool.proofs.ArchiveLaws.AskedPaths.{asked-in-full}
use Rattle.mairix_tool.proofs.wanted.Wanted.of_plan.Goals as goal

pub returns-clause-asked : goal.returns-clause-asked
returns-clause-asked c =
    rw c.format_of_mail-format.ensures (rw c.answer_format.ensures
    (asked-in-full c.args.plan.now c.args.rc.now c.args.now _ _ c.in_ok-rc.ensures.given
    (rw c.as_slice.ensures at c.in_ok-query.ensures)))

pub returns-in_err-query-clause-asked : goal.returns-in_err-query-clause-asked
returns-in_err-query-clause-asked c = grind arith
