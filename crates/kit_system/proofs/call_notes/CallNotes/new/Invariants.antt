-- A record begins without calls.
use Rattle.std.specs.Prelude.{[]}
use Rattle.kit_system.proofs.call_notes.CallNotes.new.Given as goal

-- no calls
abbrev pub ghost-of : goal.ghost-of
ghost-of a = []
