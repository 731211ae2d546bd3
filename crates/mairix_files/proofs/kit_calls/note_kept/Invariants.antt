-- Such a call says nothing of bytes.
use Rattle.std.specs.Prelude.{[]}
use Rattle.mairix_files.proofs.kit_calls.note_kept.Given as goal

-- no bytes
abbrev pub ghost-note : goal.ghost-note
ghost-note a = []
