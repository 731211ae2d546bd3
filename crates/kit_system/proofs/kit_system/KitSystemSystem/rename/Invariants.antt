-- One more call.
use Rattle.std.specs.Prelude.{◌∷◌}
use Rattle.system.specs.SystemCalls.{RenamedFile}
use Rattle.kit_system.proofs.kit_system.KitSystemSystem.rename.Given as goal

-- the calls with this one
abbrev pub ghost-next : goal.ghost-next
ghost-next g a = RenamedFile a._said.now.0.now a._said.now.1.now a._said.now.2 ∷ a.self.now.calls
