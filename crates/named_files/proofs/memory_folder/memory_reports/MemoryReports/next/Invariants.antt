-- The next reports are those that the caller names.
use Rattle.named_files.proofs.memory_folder.memory_reports.MemoryReports.next.Given as goal

-- these states
abbrev pub ghost-of : goal.ghost-of
ghost-of g a = g.said
