-- One more call.
use Rattle.std.specs.Prelude.{◌∷◌, length, take}
use Rattle.system.specs.Answers.{answer_as}
use Rattle.system.specs.SystemCalls.{WroteBytes}
use Rattle.kit_system.proofs.kit_system.KitSystemSystem.write.Given as goal

-- the calls with this one
abbrev pub ghost-next : goal.ghost-next
ghost-next g a = WroteBytes (length a._said.now.0.now.before.calls)
    (answer_as (λ n. take n a._said.now.1.now) a._said.now.2) ∷ a.self.now.calls
