-- `are_entries` decides for the directory what it decides for the rest after each entry.
use Rattle.mail_index.proofs.Words.{◌≡◌, true, arith}
use Rattle.mail_index.proofs.ViewLaws.DirectoryWalk.{entries_step, entries_stop}
use Rattle.mail_index.proofs.view.directory_walk.are_entries.Goals as goal

pub returns-in-None : goal.returns-in-None
returns-in-None c = (
  λ h. absurd (let g = h in cc),
  λ h. absurd (entries_stop _ _ _ _ _ _ _ _ _ _ _ c.loop-number-test.true c.loop-number.invariant.same c.in-None.ensures
      h),
)

pub loop-number-preserved : goal.loop-number-preserved
loop-number-preserved c =
    let x = c.in-Some.ensures in
    record {
      left = omega arith;
      bound = omega arith;
      same = entries_step _ _ _ _ _ _ _ _ _ _ _ _ _ _ _ _ c.loop-number-test.true c.loop-number.invariant.same x.0 x.1.0
          x.1.1 x.1.2 x.1.3 c.split_at.ensures.back;
    }
