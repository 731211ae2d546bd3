-- One more call.
use Rattle.std.specs.Prelude.{◌∷◌, length, take}
use Rattle.system.specs.Answers.{answer_as}
use Rattle.system.specs.SystemCalls.{ReadAt}
use Rattle.kit_system.proofs.kit_system.KitSystemSystem.read_at.Given as goal

-- the calls with this one
abbrev pub ghost-next : goal.ghost-next
ghost-next g a = ReadAt (length a._said.now.0.now.before.calls) a._said.now.1
    (answer_as (λ n. take n a._said.now.2.now) a._said.now.3) ∷ a.self.now.calls
