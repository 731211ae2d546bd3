-- They are the same calls.
use Rattle.kit_system.proofs.call_notes.CallNotes.again.Given as goal

-- the same calls
abbrev pub ghost-next : goal.ghost-next
ghost-next a = a.self.now.calls
