-- That nothing has a name agrees if nothing is supposed to have it.
use Rattle.named_files.specs.Reported.{leftover_agrees}
use Rattle.mairix_files.specs.NameCalls.{supposed_now}
use Rattle.mairix_files.proofs.kit_folder.KitFolderFolder.find_leftover.Given as goal

-- whether it agrees
abbrev pub ghost-note_told : goal.ghost-note_told
ghost-note_told g a =
    leftover_agrees a._told.now (supposed_now a._supposed.now a._calls.now.done a._name.now)
