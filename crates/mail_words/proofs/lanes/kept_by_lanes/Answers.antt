-- `kept_by_lanes` passes bytes load by load, because a load that stops at none of them is passed as a whole.
use Rattle.mail_words.proofs.Imports.{arith}
use Rattle.mail_words.proofs.PairLanes.{stops_on, stops_again}
use Rattle.mail_words.proofs.lanes.kept_by_lanes.Goals as goal

pub returns-then-run-lt-LANES-clause-passed : goal.returns-then-run-lt-LANES-clause-passed
returns-then-run-lt-LANES-clause-passed c =
    stops_on c.args.bytes.now _ _ c.kept_at-run.ensures.passed c.loop-len.invariant.passed

pub loop-len-preserved : goal.loop-len-preserved
loop-len-preserved c =
    record {
      within = omega (arith, c.kept_at-run.ensures.within, c.loop-len-test.true);
      passed = stops_on c.args.bytes.now _ _ c.kept_at-run.ensures.passed c.loop-len.invariant.passed;
    }

pub returns-else-end-len-clause-passed : goal.returns-else-end-len-clause-passed
returns-else-end-len-clause-passed c =
    stops_again c.args.bytes.now _ _ _ (omega (arith, c.loop-len-test.false, c.if-bytes-le-LANES.false))
    c.kept_at.ensures.passed c.loop-len.invariant.passed
