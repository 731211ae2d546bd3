-- What was reported of a file agrees if its bytes are still known.
use Rattle.std.specs.Prelude.{is_some, ◌&&◌}
use Rattle.mairix_files.specs.KitFiles.{bytes_held, rest_held}
use Rattle.mairix_files.proofs.kit_folder.KitFolderFolder.take_back.Given as goal

-- whether it agrees
abbrev pub ghost-note_file : goal.ghost-note_file
ghost-note_file g a =
    is_some (rest_held a._file.now.record) && is_some (bytes_held a._file.now.record)
