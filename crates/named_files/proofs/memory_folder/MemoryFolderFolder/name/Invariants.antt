-- What is reported of files in memory always agrees.
use Rattle.std.specs.Prelude.{true}
use Rattle.named_files.proofs.memory_folder.MemoryFolderFolder.name.Given as goal

-- it agrees
abbrev pub ghost-note : goal.ghost-note
ghost-note g = true
