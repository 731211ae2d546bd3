-- `after_short_differences` keeps the question the same with each load, because its differences are passed.
use Rattle.mail_index.proofs.Words.{◌<◌, ◌^◌, arith}
use Rattle.mail_index.proofs.ViewLaws.ShortDifferenceLemmas.{posted-passed}
use Rattle.mail_index.proofs.view.short_differences.after_short_differences.Goals as goal

pub loop-after-preserved : goal.loop-after-preserved
loop-after-preserved c =
    let step = posted-passed c.args.count (omega arith) c.loop-after.low c.in-Some.sum c.loop-after.rest.now
    c.in-Some.after.now c.in-Some.ensures.passed (omega arith) in
    record {
      within = omega arith;
      same = (
        λ h. step.0 (c.loop-after.invariant.same.0 h),
        λ h. c.loop-after.invariant.same.1 (step.1 h),
      );
    }
