-- `Scan::go_on` takes the step inside a message that its line says: none, one of text, or an empty one that closes it
-- or not.
use Rattle.mbox_cutter.proofs.Words.{◌≡◌, ◌<◌, true, false, arith, is_empty}
use Rattle.mbox_cutter.proofs.Machine.{empty-short}
use Rattle.mbox_cutter.proofs.ScanSteps.{found, found-on, closes-known, taken, end-steps, line-steps, open-steps, closed-steps, fault_inside-steps}
use Rattle.mbox_cutter.proofs.scan.Scan.go_on.Goals as goal

pub returns-in_err-n : goal.returns-in_err-n
returns-in_err-n g c = grind (arith, fault_inside-steps)

pub returns-then-n-eq0 : goal.returns-then-n-eq0
returns-then-n-eq0 g c = grind (arith, end-steps)

pub returns-then-not-is_empty_line : goal.returns-then-not-is_empty_line
returns-then-not-is_empty_line g c =
    let some : 0 < c.in_ok-n.n = omega arith in
    let full : is_empty c.part-line.result.now ≡ false = cc in
    let old = c.args.self.now in
    line-steps g.S.Source old _ c.in_ok-n.n c.part-line.result.now c.args.start c.args.size c.requires.phase
    c.requires.scan full
    (taken g.S.Source old _ c.in_ok-n.n c.part-line.result.now _ _
    (found g.S.Source old _ c.in_ok-n.n c.part-line.result.now c.in_ok-n.ensures some c.part-line.ensures.unread)
    c.pass.ensures)

pub closes-requires-clause-near : goal.closes-requires-clause-near
closes-requires-clause-near g c = grind (arith, empty-short)

pub returns-then-branch : goal.returns-then-branch
returns-then-branch g c =
    let some : 0 < c.in_ok-n.n = omega arith in
    let empty : is_empty c.part-line.result.now ≡ true = cc in
    let old = c.args.self.now in
    let line = c.part-line.result.now in
    closed-steps g.S.Source old _ c.in_ok-n.n line c.args.start c.args.size c.requires.phase c.requires.scan empty
    (closes-known g.S.Source old c.line_length.new.self c.in_ok-n.n line c.closes.new.self c.pass-then-branch.new.self
    c.in_ok-closes.field-0 true c.pass-then-branch.ensures.taken.source c.in_ok-n.ensures.reads.bytes
    c.in_ok-closes.ensures.reads.source.stays.known c.in_ok-closes.ensures.closes c.if-branch.true)
    (taken g.S.Source old c.closes.new.self c.in_ok-n.n line _ _
    (found-on g.S.Source old _ c.in_ok-n.n line c.closes.new.self
    (found g.S.Source old _ c.in_ok-n.n line c.in_ok-n.ensures some c.part-line.ensures.unread)
    c.in_ok-closes.ensures.place c.in_ok-closes.ensures.reads) c.pass-then-branch.ensures)

pub returns-else-branch : goal.returns-else-branch
returns-else-branch g c =
    let some : 0 < c.in_ok-n.n = omega arith in
    let empty : is_empty c.part-line.result.now ≡ true = cc in
    let old = c.args.self.now in
    let line = c.part-line.result.now in
    open-steps g.S.Source old _ c.in_ok-n.n line c.args.start c.args.size c.requires.phase c.requires.scan empty
    (closes-known g.S.Source old c.line_length.new.self c.in_ok-n.n line c.closes.new.self c.pass-else-branch.new.self
    c.in_ok-closes.field-0 false c.pass-else-branch.ensures.taken.source c.in_ok-n.ensures.reads.bytes
    c.in_ok-closes.ensures.reads.source.stays.known c.in_ok-closes.ensures.closes c.if-branch.false)
    (taken g.S.Source old c.closes.new.self c.in_ok-n.n line _ _
    (found-on g.S.Source old _ c.in_ok-n.n line c.closes.new.self
    (found g.S.Source old _ c.in_ok-n.n line c.in_ok-n.ensures some c.part-line.ensures.unread)
    c.in_ok-closes.ensures.place c.in_ok-closes.ensures.reads) c.pass-else-branch.ensures)
