-- The bytes of a file that is given a name are those that were written to it.
use Rattle.call_record.specs.Calls.{taken_after}
use Rattle.mairix_files.proofs.kit_folder.KitFolderFolder.rename.Given as goal

-- what was written
abbrev pub ghost-note_renamed : goal.ghost-note_renamed
ghost-note_renamed g a = taken_after a._written.now.calls
