-- `open_for` refuses an index only as the definition does, by the cases of its tests.
use Rattle.mairix_tool.proofs.Words.{◌∙◌, Some, None, sym, ap, arith, shown_wanted, renamed_archive}
use Rattle.std.proofs.Math.Facts.{Fits-lt-pow}
use Rattle.mairix_tool.proofs.ReplyLaws.Stored.{one-bad-index, one-too-old, one-renamed}
use Rattle.mairix_tool.proofs.stored.open_for.Goals as goal

pub returns-in_err-view-clause-each : goal.returns-in_err-view-clause-each
returns-in_err-view-clause-each c = λ fault is.
    one-bad-index (shown_wanted c.args.wanted.now) c.args.index.now c.well_formed.0.0 c.from_residual.result
    c.open.result
    (grind arith) (grind (arith, Fits-lt-pow)) (grind arith) fault is

pub returns-then-is_too_old-clause-each : goal.returns-then-is_too_old-clause-each
returns-then-is_too_old-clause-each c = λ fault is.
    one-too-old (shown_wanted c.args.wanted.now) c.args.index.now c.well_formed.0.0 c.in_ok-view.view (grind arith)
    (sym c.is_too_old.ensures ∙ c.if-is_too_old.true) fault is

pub returns-in-Some-clause-each : goal.returns-in-Some-clause-each
returns-in-Some-clause-each c = λ fault is.
    one-renamed (shown_wanted c.args.wanted.now) c.args.index.now c.well_formed.0.0 c.in_ok-view.view (grind arith)
    (sym c.is_too_old.ensures ∙ c.if-is_too_old.false) (Some c.in-Some.number)
    (ap (renamed_archive c.in_ok-view.view.archives) (sym c.as_slice.ensures) ∙ sym c.in-Some.ensures) fault is

pub returns-in-None-clause-each : goal.returns-in-None-clause-each
returns-in-None-clause-each c = λ fault is.
    one-renamed (shown_wanted c.args.wanted.now) c.args.index.now c.well_formed.0.0 c.in_ok-view.view (grind arith)
    (sym c.is_too_old.ensures ∙ c.if-is_too_old.false) None
    (ap (renamed_archive c.in_ok-view.view.archives) (sym c.as_slice.ensures) ∙ sym c.in-None.ensures) fault is
