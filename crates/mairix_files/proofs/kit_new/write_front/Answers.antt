-- A write adds a front of the bytes that are left to those that were written.
use Rattle.std.proofs.Common.{◌∙◌, ◌++◌, ap, arith, length-drop, take}
use Rattle.std.proofs.lemmas.List.{take_rest}
use Rattle.call_record.specs.Calls.{taken_after}
use Rattle.mairix_files.proofs.Writing.{more_written}
use Rattle.mairix_files.proofs.kit_new.write_front.Goals as goal

pub loop-count-preserved : goal.loop-count-preserved
loop-count-preserved c = (
  omega (arith, length-drop c.loop-count.count c.args.bytes.now, c.in-Ok.ensures.bound.1, c.loop-count.invariant.0),
  more_written _ _ _ c.args.bytes.now c.loop-count.count c.in-Ok.n c.loop-count.invariant.1
      (ap taken_after c.in-Ok.ensures.noted.1
      ∙ ap (λ l. taken_after c.loop-count.noted.calls ++ take c.in-Ok.n l)
      (take_rest c.args.bytes.now c.loop-count.count)),
)
