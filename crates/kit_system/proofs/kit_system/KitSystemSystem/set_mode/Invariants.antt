-- One more call.
use Rattle.std.specs.Prelude.{◌∷◌, length}
use Rattle.system.specs.SystemCalls.{SetMode}
use Rattle.kit_system.proofs.kit_system.KitSystemSystem.set_mode.Given as goal

-- the calls with this one
abbrev pub ghost-next : goal.ghost-next
ghost-next g a = SetMode (length a._said.now.0.now.before.calls) a._said.now.1 a._said.now.2 ∷ a.self.now.calls
