-- How the output of a run is flushed at its end.
use Rattle.std.specs.Prelude.{◌≡◌, ◌⊎◌, ℕ, ◌+◌, List, Option, Result, Ok, Err}
use Rattle.std.specs.Io.KnownBytes.{Keeps}
use Rattle.mbox_cutter.specs.declared.device.Out.{Ghosts}
use Rattle.run_faults.specs.declared.fault.Fault.{Fault}
use Rattle.run_faults.specs.declared.fault.Fault.TheVariants.{Out}

-- the output of a run that succeeded was flushed, or the output failed; after a fault it is as it was
abbrev pub IsFlushed : {O : Type 0} → Ghosts O → (O → Option (List ℕ)) → Result ℕ Fault → O → O → Result ℕ Fault
    → Type 0
IsFlushed g handed_on (Err fault) old new result = (result ≡ Err fault) × (new ≡ old)
IsFlushed g handed_on (Ok status) old new result = Keeps (g.taken old) (g.taken new)
    × (((result ≡ Ok status) × (handed_on new ≡ g.taken new) × (g.failures new ≡ g.failures old))
    ⊎ ((result ≡ Err Out) × (g.failures new ≡ g.failures old + 1)))
