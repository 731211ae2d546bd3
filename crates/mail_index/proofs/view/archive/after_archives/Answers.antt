-- `after_archives` passes one archive in each turn, so the rest is what the definition gives.
use Rattle.mail_index.proofs.ViewLaws.ArchiveReads.{pass_step}
use Rattle.mail_index.proofs.view.archive.after_archives.Goals as goal

pub loop-number-preserved : goal.loop-number-preserved
loop-number-preserved c =
    let s = pass_step _ _ _ _ _ _ _ c.loop-number-test.true c.requires.bound c.loop-number.invariant.spelled
    c.loop-number.invariant.same c.after_first_archive-rest.ensures.value in
    record { spelled = s.0; same = s.1 }
