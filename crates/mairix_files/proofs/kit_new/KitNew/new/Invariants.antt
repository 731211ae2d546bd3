-- The record of a new file supposes nothing, since nothing is read from it.
use Rattle.std.specs.Prelude.{[]}
use Rattle.mairix_files.proofs.kit_new.KitNew.new.Given as goal

-- no bytes are supposed
abbrev pub ghost-new : goal.ghost-new
ghost-new a = []
