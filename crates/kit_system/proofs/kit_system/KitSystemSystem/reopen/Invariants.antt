-- One more call.
use Rattle.std.specs.Prelude.{◌∷◌, length}
use Rattle.system.specs.Answers.{done_or_error}
use Rattle.system.specs.SystemCalls.{ReopenedFile}
use Rattle.kit_system.proofs.kit_system.KitSystemSystem.reopen.Given as goal

-- the calls with this one
abbrev pub ghost-next : goal.ghost-next
ghost-next g a = ReopenedFile (length a._said.now.0.now.before.calls) (done_or_error a._said.now.1.now) ∷
    a.self.now.calls
