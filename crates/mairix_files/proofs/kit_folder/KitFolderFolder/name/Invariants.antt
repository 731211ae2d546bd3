-- Whether all that was reported agrees is what the reports say.
use Rattle.mairix_files.proofs.kit_folder.KitFolderFolder.name.Given as goal

-- whether it agrees
abbrev pub ghost-note : goal.ghost-note
ghost-note g a = a._reports.now.agree
