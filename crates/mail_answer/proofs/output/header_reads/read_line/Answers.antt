-- `read_line` passes the next line to the header, which will still have the fields of the message.
use Rattle.mail_answer.proofs.Words.{◌<◌, arith}
use Rattle.mail_answer.proofs.OutputLaws.HeaderReading.{none_comes, line_given}
use Rattle.mail_answer.proofs.output.header_reads.read_line.Goals as goal

pub returns-then-n-eq0-clause-fields : goal.returns-then-n-eq0-clause-fields
returns-then-n-eq0-clause-fields g c =
    none_comes _ _ _ c.args.header.now (rw c.if-n-eq0.true at c.in-Ok.ensures.line)

pub returns-clause-fields : goal.returns-clause-fields
returns-clause-fields g c =
    let some : 0 < c.in-Ok.n = omega (arith, c.if-n-eq0.false) in
    line_given _ _
    _ _ c.args.header.now _ _
    (rw c.line.ensures c.in-Ok.ensures.line) some c.in_ok-taken.ensures.lines c.in_ok-taken.ensures.taken
