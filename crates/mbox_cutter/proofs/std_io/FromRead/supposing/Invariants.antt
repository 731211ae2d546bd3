-- The record of a new source supposes the given bytes, as those of its only archive.
use Rattle.std.proofs.Common.{[], ◌∷◌}
use Rattle.mbox_cutter.proofs.std_io.FromRead.supposing.Given as goal

-- the record supposes these bytes of the only archive
abbrev pub ghost-new : goal.ghost-new
ghost-new g a = g.bytes ∷ []
