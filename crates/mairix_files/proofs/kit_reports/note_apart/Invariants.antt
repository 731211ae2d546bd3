-- The report agrees exactly if the caller says so.
use Rattle.mairix_files.proofs.kit_reports.note_apart.Given as goal

-- whether it agrees
abbrev pub ghost-note : goal.ghost-note
ghost-note g a = g.agrees
