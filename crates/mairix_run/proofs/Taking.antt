-- What is sent in several parts is taken as a whole, or a front of it before a call failed.
use Rattle.std.proofs.Common.{◌≡◌, ℕ, ◌+◌, List, ◌++◌, Result, Ok, Err, OnOk, OnErr, append_assoc, ◌∙◌, ap, sym}
use Rattle.std.specs.Io.KnownBytes.{Appends}
use Rattle.contract_words.specs.Devices.{Counts, Sends}
use Rattle.contract_words.proofs.Sending.{appends_join}
use Rattle.mbox_cutter.specs.declared.device.DeviceFault.{DeviceFault}
use Rattle.mbox_cutter.specs.declared.device.Out.{Ghosts}
use Rattle.mairix_run.specs.Streams.{TakesWholeText, BreaksOff, EndsTaking}

-- one part after another
pub all_join : {O : Type 0} (g : Ghosts O) (a b c : O) (x y : List ℕ) → TakesWholeText g a b x → TakesWholeText g b c y
    → TakesWholeText g a c (x ++ y)
all_join g a b c x y h k = (appends_join (g.taken a) (g.taken b) (g.taken c) x y h.0 k.0, k.1 ∙ h.1)

pub breaks_later : {O : Type 0} (g : Ghosts O) (a b c : O) (x y : List ℕ) → TakesWholeText g a b x → BreaksOff g b c y
    → BreaksOff g a c (x ++ y)
breaks_later g a b c x y h k = (
  (
    x ++ k.0.0,
    k.0.1,
    ap (λ (l : List ℕ). x ++ l) k.0.2 ∙ sym (append_assoc x k.0.0 k.0.1),
    appends_join (g.taken a) (g.taken b) (g.taken c) x k.0.0 h.0 k.0.3,
  ),
  k.1 ∙ ap (λ (n : ℕ). n + 1) h.1,
)

pub breaks_early : {O : Type 0} (g : Ghosts O) (a b : O) (x y : List ℕ) → BreaksOff g a b x → BreaksOff g a b (x ++ y)
breaks_early g a b x y h = (
  (
    h.0.0,
    h.0.1 ++ y,
    ap (λ (l : List ℕ). l ++ y) h.0.2 ∙ append_assoc h.0.0 h.0.1 y,
    h.0.3,
  ),
  h.1,
)

-- the last part, whatever its call returned
pub ends_join : {O : Type 0} (g : Ghosts O) (a b c : O) (x y : List ℕ) (result : Result (Unit {0}) DeviceFault)
    → TakesWholeText g a b x → OnOk result (Appends (g.taken b) (g.taken c) y)
    → OnErr result (Sends (g.taken b) (g.taken c) y)
    → Counts result (g.failures b) (g.failures c) → EndsTaking g a c (x ++ y) result
ends_join g a b c x y (Ok done) h all front count = all_join g a b c x y h (all, count)
ends_join g a b c x y (Err fault) h all front count = breaks_later g a b c x y h (front, count)
