-- How a run ends, and why one is stopped.
use Rattle.std.specs.Prelude.{◌≡◌, ℕ, List, Result, Ok, Err}
use Rattle.std.specs.String.{string_bytes}
use Rattle.or_memory.specs.declared.or_memory.OrMemory.{OrMemory}
use Rattle.named_files.specs.declared.refusal.Refusal.{Refusal}
use Rattle.named_files.specs.declared.refusal.Refusal.TheVariants as why
use Rattle.run_faults.specs.Faults.{IsOrMemory}
use Rattle.run_faults.specs.declared.fault.Fault.{Fault}
use Rattle.run_faults.specs.declared.fault.Fault.TheVariants.{Memory}
use Rattle.mairix_run.specs.declared.stopped.Stopped.{Stopped}
use Rattle.mairix_run.specs.declared.stopped.Stopped.TheVariants as by

-- how a run ends: with a status of its own; because a file can't be opened, read or made; or because of a fault
pub data Ending : Type 0 where
  Done : ℕ → Ending
  CannotOpen : List ℕ → Ending
  Because : Fault → Ending

-- the ending of a run that was stopped
abbrev pub ending_of_stopped : Stopped → Ending
ending_of_stopped (by.CannotOpen path) = CannotOpen (string_bytes path)
ending_of_stopped (by.Fault fault) = Because fault

-- the ending of a run that returned this
abbrev pub ending_of_result : Result ℕ Stopped → Ending
ending_of_result (Ok status) = Done status
ending_of_result (Err stopped) = ending_of_stopped stopped

-- the ending by the status or the fault of what was written
abbrev pub ending_by : Result ℕ Fault → Ending
ending_by (Ok status) = Done status
ending_by (Err fault) = Because fault

-- the file with this path can't be opened, read or made; or there was no memory for the path
abbrev pub IsStoppedAt : List ℕ → Stopped → Type 0
IsStoppedAt path (by.CannotOpen name) = string_bytes name ≡ path
IsStoppedAt path (by.Fault fault) = fault ≡ Memory

-- the run is stopped for this path
abbrev pub StopsAt : {T : Type 0} → List ℕ → Result T Stopped → Type 0
StopsAt path (Ok value) = ⊥
StopsAt path (Err stopped) = IsStoppedAt path stopped

-- what a folder gave for this path; if it refused, the run is stopped
abbrev pub IsGivenUnlessRefused : {T : Type 0} → List ℕ → Result T Refusal → Result T Stopped → Type 0
IsGivenUnlessRefused path (Ok value) result = result ≡ Ok value
IsGivenUnlessRefused path (Err why.Refused) result = StopsAt path result
IsGivenUnlessRefused path (Err why.Memory) result = result ≡ Err (by.Fault Memory)

-- the run is stopped by the fault that a refusal becomes, or by lack of memory
abbrev pub IsStoppedBy : {E : Type 0} → (E → Fault → Type 0) → OrMemory E → Stopped → Type 0
IsStoppedBy gives given (by.Fault fault) = IsOrMemory gives given fault
IsStoppedBy gives given (by.CannotOpen path) = ⊥
