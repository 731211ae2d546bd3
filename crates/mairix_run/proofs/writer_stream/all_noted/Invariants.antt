-- The new record supposes the bytes that the caller names, as those of its only archive.
use Rattle.std.specs.Prelude.{[], ◌∷◌}
use Rattle.mairix_run.proofs.writer_stream.all_noted.Given as goal

-- it supposes these bytes
abbrev pub ghost-new : goal.ghost-new
ghost-new g a = g.bytes ∷ []
