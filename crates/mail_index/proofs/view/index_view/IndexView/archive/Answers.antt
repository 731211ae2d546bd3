-- `IndexView::archive` returns the archive of the number, because it passes those before it.
use Rattle.mail_index.proofs.Words.{slice_get, arith, version_number, read_archive}
use Rattle.mail_index.proofs.ViewLaws.ArchiveReads.{read_count, archive_at}
use Rattle.mail_index.proofs.view.index_view.IndexView.archive.Goals as goal

pub after_archives-rest-requires-clause-bound : goal.after_archives-rest-requires-clause-bound
after_archives-rest-requires-clause-bound c = grind (arith, read_count, version_number)

pub overflow_sub-layout : goal.overflow_sub-layout
overflow_sub-layout c = grind (arith, read_count, version_number)

pub first_archive-requires-clause-some : goal.first_archive-requires-clause-some
first_archive-requires-clause-some c = grind (arith, read_count, version_number)

pub returns : goal.returns
returns c = grind (arith, read_count, version_number, slice_get, archive_at, read_archive)
