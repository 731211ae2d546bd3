-- At first no file was given back.
use Rattle.std.specs.Prelude.{[]}
use Rattle.named_files.proofs.memory_folder.memory_reports.MemoryReports.new.Given as goal

-- no states
abbrev pub ghost-of : goal.ghost-of
ghost-of a = []
