-- The new record supposes the files that the caller supposes.
use Rattle.mairix_files.proofs.kit_folder.supposing.Given as goal

-- the record supposes these bytes of the only file, or no file
abbrev pub ghost-new : goal.ghost-new
ghost-new g a = g.files
