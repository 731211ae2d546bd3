-- `Reader::close` ends the innermost group as the definition does, by what was opened last: a `(`, a `not`, or nothing.
use Rattle.mail_query.proofs.Words.{◌≡◌, ◌∙◌, Ok, arith, query_of, shown_level, shown_stack, state_after_operand, state_after_close, level_query}
use Rattle.mail_query.specs.Inside.Shown.{state_of_reader}
use Rattle.mail_query.proofs.BooleanLaws.StackLemmas.{pops-close, pops-not}
use Rattle.mail_query.proofs.boolean.reader.Reader.close.Goals as goal

pub returns-in_ok-node-in-Some-ForClose : goal.returns-in_ok-node-in-Some-ForClose
returns-in_ok-node-in-Some-ForClose c =
    let reader = c.args.self.now in
    let node = query_of c.in_ok-node-in-Some-ForClose.node in
    let asked : Ok (level_query (shown_level reader.level)) ≡ Ok node =
    rw c.replace-inner.ensures.value at c.in_ok-node-in-Some-ForClose.ensures in
    let whole : state_after_close (state_of_reader reader) ≡ Ok
    (state_after_operand (shown_stack c.pop.new.self.items) (shown_level c.in-Some-ForClose.outer) node) =
    rw c.if-self.false (pops-close reader.waiting.items c.pop.new.self.items c.in-Some-ForClose.outer
    (shown_level reader.level) (rw c.in-Some-ForClose.field-0-is at c.in-Some-ForClose.ensures.items) ∙ cc) in
    grind arith

pub returns-in-Some-ForNot : goal.returns-in-Some-ForNot
returns-in-Some-ForNot c = grind (arith, pops-not)
