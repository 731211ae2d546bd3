-- One more call.
use Rattle.std.specs.Prelude.{◌∷◌}
use Rattle.system.specs.Answers.{done_or_error}
use Rattle.system.specs.SystemCalls.{MadeFile}
use Rattle.kit_system.proofs.kit_system.KitSystemSystem.make.Given as goal

-- the calls with this one
abbrev pub ghost-next : goal.ghost-next
ghost-next g a = MadeFile a._said.now.0.now a._said.now.1 (done_or_error a._said.now.2.now) ∷ a.self.now.calls
