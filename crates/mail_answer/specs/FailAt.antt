-- Calls that are passed on to other archives, except for one that fails.
use Rattle.std.specs.Prelude.{◌≡◌, ◌≢◌, ◌-◌, Result, IsErr}
use Rattle.mbox_cutter.specs.declared.device.DeviceFault.{DeviceFault}
use Rattle.mail_answer.specs.declared.archives.fail_at.FailAt.{FailAt}

-- The call fails if it is the next one that has to, and nothing is passed on. Otherwise it is passed on, and does this.
pub record PassesOn {A T : Type 0} (Does : Type 0) (old new : FailAt A) (result : Result T DeviceFault) : Type 0 where
  pub fails : old.fail_at ≡ 1 → IsErr result × (new.inner ≡ old.inner)
  pub passes : old.fail_at ≢ 1 → Does
  pub next : new.fail_at ≡ old.fail_at - 1
