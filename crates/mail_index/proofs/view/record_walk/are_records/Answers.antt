-- `are_records` decides for the section what it decides for the rest after each record.
use Rattle.mail_index.proofs.Words.{◌≡◌, true, false, arith}
use Rattle.mail_index.proofs.ViewLaws.RecordWalk.{records_step, records_stop, records_stray}
use Rattle.mail_index.proofs.view.record_walk.are_records.Goals as goal

pub returns-then-not-is_record : goal.returns-then-not-is_record
returns-then-not-is_record c = (
  λ h. absurd (let g = h in cc),
  λ h. absurd (records_stop _ _ _ _ _ _ _ _ _ c.loop-number-test.true c.loop-number.invariant.same
      (let e = c.if-not-is_record.true in cc) h),
)

pub returns-in-None : goal.returns-in-None
returns-in-None c = (
  λ h. absurd (let g = h in cc),
  λ h. absurd (records_stray _ _ _ _ _ _ _ _ _ _ c.loop-number-test.true c.loop-number.invariant.same c.read.ensures
      c.in-None.ensures.next h),
)

pub loop-number-preserved : goal.loop-number-preserved
loop-number-preserved c =
    let x = c.in-Some.ensures.next in
    record {
      left = omega arith;
      bound = omega arith;
      spelled = x.1.3;
      same = records_step _ _ _ _ _ _ _ _ _ _ _ _ _ _ c.loop-number-test.true c.loop-number.invariant.same
          (let e = c.if-not-is_record.false in cc) c.read.ensures x.0 x.1.0 x.1.1 x.1.2 c.split_at.ensures.back;
    }
