-- `are_archives` decides for the section what it decides for the rest after each archive.
use Rattle.std.proofs.Common.{◌≡◌, true}
use Rattle.mail_index.proofs.ViewLaws.ArchiveReads.{spells_step, spells_stop}
use Rattle.mail_index.proofs.view.archive.are_archives.Goals as goal

pub loop-number-preserved : goal.loop-number-preserved
loop-number-preserved c = spells_step _ _ _ _ _ _ c.loop-number-test.true c.loop-number.invariant c.in-Some.ensures.0
    c.in-Some.ensures.2

pub returns-in-None : goal.returns-in-None
returns-in-None c = (
  λ h. absurd (let g = h in cc),
  λ h. absurd (spells_stop _ _ _ _ _ c.loop-number-test.true c.loop-number.invariant c.in-None.ensures h),
)
