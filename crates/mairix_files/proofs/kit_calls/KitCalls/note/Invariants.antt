-- The next calls are the same with one more.
use Rattle.std.specs.Prelude.{◌∷◌}
use Rattle.mairix_files.specs.NameCallCodes.{name_call_of}
use Rattle.mairix_files.proofs.kit_calls.KitCalls.note.Given as goal

-- the calls with the new one
abbrev pub ghost-next : goal.ghost-next
ghost-next g a = name_call_of a._numbers.now a._name.now g.bytes ∷ a.self.now.done
