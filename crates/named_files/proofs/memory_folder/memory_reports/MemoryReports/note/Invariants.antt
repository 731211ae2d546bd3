-- The next reports have the state of one more file.
use Rattle.std.specs.Prelude.{◌∷◌, Some}
use Rattle.named_files.proofs.memory_folder.memory_reports.MemoryReports.note.Given as goal

-- the states with the new one
abbrev pub ghost-next : goal.ghost-next
ghost-next a = Some tt ∷ a.self.now.found
