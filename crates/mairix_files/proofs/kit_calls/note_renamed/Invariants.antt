-- The bytes that are noted are those that the caller names.
use Rattle.mairix_files.proofs.kit_calls.note_renamed.Given as goal

-- the bytes that were written
abbrev pub ghost-note : goal.ghost-note
ghost-note g a = g.bytes
