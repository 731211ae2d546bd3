-- `grown` keeps each entry in turn.
use Rattle.mail_index.proofs.build.key_map.grown.Goals as goal

pub returns-in_err-keep-clause-part : goal.returns-in_err-keep-clause-part
returns-in_err-keep-clause-part c i a = c.keep.ensures.part i (c.loop-number.invariant.part i a)

pub loop-number-preserved : goal.loop-number-preserved
loop-number-preserved c = record {
  step = c.keep.ensures.step;
  part = λ i a. c.keep.ensures.part i (c.loop-number.invariant.part i a);
  kept = c.in_ok-keep.ensures.kept c.loop-number.invariant.kept;
}
