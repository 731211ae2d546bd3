-- The next reports are those that the caller names.
use Rattle.mairix_files.proofs.kit_reports.KitReports.next.Given as goal

-- these reports
abbrev pub ghost-of : goal.ghost-of
ghost-of g a = g.said
