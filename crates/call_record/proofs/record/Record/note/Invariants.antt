-- The next record supposes the same, and has one more call.
use Rattle.std.specs.Prelude.{◌∷◌}
use Rattle.call_record.specs.Note.{call_of}
use Rattle.call_record.proofs.record.Record.note.Given as goal

-- what is supposed, and the calls with the new one
abbrev pub ghost-next : goal.ghost-next
ghost-next a = (a.self.now.supposed, call_of a._numbers.now a._bytes.now ∷ a.self.now.calls)
