-- That a file was made agrees if nothing is supposed to have the name.
use Rattle.named_files.specs.Reported.{is_free}
use Rattle.mairix_files.specs.NameCalls.{supposed_now}
use Rattle.mairix_files.proofs.kit_folder.KitFolderFolder.create.Given as goal

-- whether it agrees
abbrev pub ghost-note_told : goal.ghost-note_told
ghost-note_told g a =
    is_free (supposed_now a._supposed.now a._calls.now.done a._name.now)
