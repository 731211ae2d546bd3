-- A look agrees if it finds what is supposed.
use Rattle.named_files.specs.Reported.{look_agrees}
use Rattle.mairix_files.specs.NameCalls.{supposed_now}
use Rattle.mairix_files.proofs.kit_folder.KitFolderFolder.look.Given as goal

-- whether it agrees
abbrev pub ghost-note_told : goal.ghost-note_told
ghost-note_told g a =
    look_agrees a._told.now (supposed_now a._supposed.now a._calls.now.done a._name.now)
