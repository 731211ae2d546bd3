-- `is_negated` looks at the last item of the vector, because this is the first item of the definition's stack.
use Rattle.mail_query.proofs.Words.{ap, sym, arith, shown_level, shown_waiting}
use Rattle.mail_query.proofs.BooleanLaws.StackLemmas.{negated_last, open_last}
use Rattle.mail_query.proofs.boolean.reader.is_negated.Goals as goal

pub returns-in-ForNot : goal.returns-in-ForNot
returns-in-ForNot c = grind (arith, negated_last)

pub returns-in-ForClose : goal.returns-in-ForClose
returns-in-ForClose c =
    sym (open_last c.args.waiting.now c.in-Some.field-0-1.now c.in-Some.last.now (shown_level c.in-ForClose.field-0)
    c.in-Some.ensures.cases (ap shown_waiting c.in-ForClose.is))
