-- The next reports have the states of both.
use Rattle.std.specs.Prelude.{◌++◌}
use Rattle.named_files.proofs.memory_folder.memory_reports.MemoryReports.add.Given as goal

-- all states
abbrev pub ghost-next : goal.ghost-next
ghost-next a = a._more.now.found ++ a.self.now.found
