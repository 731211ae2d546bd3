-- One more call.
use Rattle.std.specs.Prelude.{◌∷◌}
use Rattle.system.specs.SystemCalls.{Looked}
use Rattle.kit_system.proofs.kit_system.KitSystemSystem.look.Given as goal

-- the calls with this one
abbrev pub ghost-next : goal.ghost-next
ghost-next g a = Looked a._said.now.0.now a._said.now.1 ∷ a.self.now.calls
