-- `Scan::start` takes the step between messages that the first line says which isn't empty, because it passes empty
-- ones.
use Rattle.mbox_cutter.proofs.Words.{◌≡◌, ◌<◌, true, false, ap, arith, is_empty, is_separator}
use Rattle.mbox_cutter.proofs.ScanSteps.{found, taken, done-steps, start-steps, refused-steps, fault-steps, skipped-one, skipped-steps}
use Rattle.mbox_cutter.proofs.scan.Scan.start.Goals as goal

pub returns-in_err-n : goal.returns-in_err-n
returns-in_err-n g c = grind (arith, skipped-steps, fault-steps)

pub returns-then-n-eq0 : goal.returns-then-n-eq0
returns-then-n-eq0 g c = grind (arith, skipped-steps, done-steps)

pub returns-then-is_separator : goal.returns-then-is_separator
returns-then-is_separator g c =
    let now = c.empties.self in
    let k = c.empties.invariant in
    let line = c.part-line.result.now in
    let some : 0 < c.in_ok-n.n = omega arith in
    let starts : is_separator line ≡ true = cc in
    skipped-steps g.S.Source c.args.self.now now _ _ k
    (start-steps g.S.Source now _ c.in_ok-n.n line _ k.phase (ap (λ p. p.offset) c.in_ok-n.ensures.place) starts
    (taken g.S.Source now _ c.in_ok-n.n line _ _
    (found g.S.Source now _ c.in_ok-n.n line c.in_ok-n.ensures some c.part-line.ensures.unread) c.pass.ensures))

pub returns-then-not-is_empty_line : goal.returns-then-not-is_empty_line
returns-then-not-is_empty_line g c =
    let now = c.empties.self in
    let k = c.empties.invariant in
    let line = c.part-line.result.now in
    let some : 0 < c.in_ok-n.n = omega arith in
    let other : is_separator line ≡ false = cc in
    let full : is_empty line ≡ false = cc in
    skipped-steps g.S.Source c.args.self.now now _ _ k
    (refused-steps g.S.Source now _ c.in_ok-n.n line k.scan k.phase
    (found g.S.Source now _ c.in_ok-n.n line c.in_ok-n.ensures some c.part-line.ensures.unread) other full)

pub empties-preserved : goal.empties-preserved
empties-preserved g c =
    let now = c.empties.self in
    let k = c.empties.invariant in
    let line = c.part-line.result.now in
    let some : 0 < c.in_ok-n.n = omega arith in
    let other : is_separator line ≡ false = cc in
    let empty : is_empty line ≡ true = cc in
    skipped-one g.S.Source c.args.self.now now _ c.in_ok-n.n line k
    (taken g.S.Source now _ c.in_ok-n.n line _ _
    (found g.S.Source now _ c.in_ok-n.n line c.in_ok-n.ensures some c.part-line.ensures.unread)
    c.pass-in-empties.ensures) other empty
