-- Two names are supposed to be apart if they don't lead to one place.
use Rattle.named_files.specs.Reported.{apart_agrees}
use Rattle.mairix_files.specs.NameCalls.{are_apart}
use Rattle.mairix_files.proofs.kit_folder.KitFolderFolder.is_apart.Given as goal

-- whether it agrees
abbrev pub ghost-note_apart : goal.ghost-note_apart
ghost-note_apart g a =
    apart_agrees a._told.now (are_apart a._supposed.now.links a._name.now a._other.now)
