-- `first_archive` always finds an archive, because the section has at least one.
use Rattle.mail_index.proofs.ViewLaws.ArchiveReads.{has_first}
use Rattle.mail_index.proofs.view.archive.first_archive.Goals as goal

pub unreachable-requires : goal.unreachable-requires
unreachable-requires c = c.in-None.ensures (has_first _ _ _ c.requires.some c.requires.spelled)
