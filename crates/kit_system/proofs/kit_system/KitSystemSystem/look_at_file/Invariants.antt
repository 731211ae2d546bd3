-- One more call.
use Rattle.std.specs.Prelude.{◌∷◌, length}
use Rattle.system.specs.SystemCalls.{LookedAtFile}
use Rattle.kit_system.proofs.kit_system.KitSystemSystem.look_at_file.Given as goal

-- the calls with this one
abbrev pub ghost-next : goal.ghost-next
ghost-next g a = LookedAtFile (length a._said.now.0.now.before.calls) a._said.now.1 ∷ a.self.now.calls
