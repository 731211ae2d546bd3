-- One more call.
use Rattle.std.specs.Prelude.{◌∷◌}
use Rattle.std.specs.Path.{path_buf_bytes}
use Rattle.system.specs.Answers.{answer_as}
use Rattle.system.specs.SystemCalls.{FoundPath}
use Rattle.kit_system.proofs.kit_system.KitSystemSystem.real_path.Given as goal

-- the calls with this one
abbrev pub ghost-next : goal.ghost-next
ghost-next g a = FoundPath a._said.now.0.now (answer_as path_buf_bytes a._said.now.1.now) ∷ a.self.now.calls
