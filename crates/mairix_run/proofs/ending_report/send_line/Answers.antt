-- A line is taken in three parts; if one fails, a front of the line was taken.
use Rattle.std.proofs.Common.{[], ◌∷◌, ◌++◌}
use Rattle.mairix_run.proofs.Taking.{all_join, breaks_early, breaks_later, ends_join}
use Rattle.mairix_run.proofs.ending_report.send_line.Goals as goal

pub returns-in-Err : goal.returns-in-Err
returns-in-Err g c = record {
  taken = breaks_early g.E.Out c.args.err.now c.send.new.out (c.args.head.now ++ c.args.text.now) (10 ∷ [])
      (breaks_early g.E.Out c.args.err.now c.send.new.out c.args.head.now c.args.text.now
      (c.in-Err.ensures.err, c.in-Err.ensures.count));
}

pub returns-in-Err-send : goal.returns-in-Err-send
returns-in-Err-send g c = record {
  taken = breaks_early g.E.Out c.args.err.now c.send-2.new.out (c.args.head.now ++ c.args.text.now) (10 ∷ [])
      (breaks_later g.E.Out c.args.err.now c.send.new.out c.send-2.new.out c.args.head.now c.args.text.now
      (c.in_default.ensures.ok, c.in_default.ensures.count) (c.in-Err-send.ensures.err, c.in-Err-send.ensures.count));
}

pub returns : goal.returns
returns g c = record {
  taken = ends_join g.E.Out c.args.err.now c.send-2.new.out c.send-3.new.out (c.args.head.now ++ c.args.text.now)
      (10 ∷ []) c.send-3.result
      (all_join g.E.Out c.args.err.now c.send.new.out c.send-2.new.out c.args.head.now c.args.text.now
      (c.in_default.ensures.ok, c.in_default.ensures.count)
      (c.in_default-send.ensures.ok, c.in_default-send.ensures.count))
      c.send-3.ensures.ok c.send-3.ensures.err c.send-3.ensures.count;
}
