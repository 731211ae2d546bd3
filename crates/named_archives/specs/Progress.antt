-- What a source knows of the file that it reads, by how far it has read it.
use Rattle.std.specs.Prelude.{◌≡◌, ◌⊎◌, ℕ, ◌<◌, ◌&&◌, Bool, true, false, List, [], Option, None, Some, IsSome, is_some}
use Rattle.std.specs.Option.{ForSome}
use Rattle.named_files.specs.declared.refusal.Refusal.{Refusal}
use Rattle.named_files.specs.declared.refusal.Refusal.TheVariants.{Memory, Refused}
use Rattle.named_archives.specs.declared.named_source.Progress.{Progress}
use Rattle.named_archives.specs.declared.named_source.Progress.TheVariants.{Going, Ended, Lost}

-- What is still given: all bytes before the file is opened, and then what the file has left. If it was lost, nothing is
-- known of it.
abbrev pub bytes_left_in : {F : Type 0} → (F → Option (List ℕ)) → Option (List ℕ) → Option F → Progress
    → Option (List ℕ)
bytes_left_in rest all None progress = all
bytes_left_in rest all (Some file) Going = rest file
bytes_left_in rest all (Some file) Ended = rest file
bytes_left_in rest all (Some file) Lost = None

-- after the last read, the file was found in the state in which it has to be
abbrev pub IsFoundInState : {F S : Type 0} → (F → Option S) → Option S → F → Type 0
IsFoundInState found state file = ForSome state (λ asked. found file ≡ Some asked)

-- A file that has ended has nothing left, and was found in its state. If it was lost, a call has failed.
abbrev pub HasReached : {F S : Type 0} → (F → Option S) → (F → Option (List ℕ)) → Option S → F → ℕ → Progress → Type 0
HasReached found rest state file failures progress =
    (progress ≡ Ended → ForSome (rest file) (λ left. left ≡ []) × IsFoundInState found state file)
    × (progress ≡ Lost → 0 < failures)

-- whether what the file has returned agrees with what was supposed of it, if it was opened
abbrev pub has_agreed : {F : Type 0} → (F → Option (List ℕ)) → (F → Option (List ℕ)) → Option F → Bool
has_agreed rest bytes None = true
has_agreed rest bytes (Some file) = is_some (rest file) && is_some (bytes file)

-- why a file wasn't opened: lack of memory, or it isn't there, unless the system has a reason of its own
abbrev pub IsRefusedFor : Refusal → Option (List ℕ) → Type 0 → Type 0
IsRefusedFor why all Reason = why ≡ Refused → (Reason → ⊥) → all ≡ None

-- why a read failed: a call on the file has failed, or the file couldn't be opened, for a reason that is kept
abbrev pub HasFailed : {F : Type 0} → (F → ℕ) → Option F → Option Refusal → Type 0
HasFailed failures None refused = IsSome refused
HasFailed failures (Some file) refused = 0 < failures file

-- whether a file wasn't opened because memory ran out
abbrev pub is_for_memory : Option Refusal → Bool
is_for_memory None = false
is_for_memory (Some Memory) = true
is_for_memory (Some Refused) = false

-- files that are there can't be read, because the system refuses a call, or because a read fails
abbrev pub CannotRead : Type 0 → Type 0 → Type 0
CannotRead CanRefuse ReadsCanFail = ∥ CanRefuse ⊎ ReadsCanFail ∥₁

-- why calls have failed, unless memory ran out as a file was opened, or a file isn't there
abbrev pub FailsFor : Option Refusal → Type 0 → Type 0 → Type 0 → Type 0
FailsFor refused AreThere CanRefuse ReadsCanFail =
    is_for_memory refused ≡ false → AreThere → CannotRead CanRefuse ReadsCanFail

-- a file that was opened was found in the state in which it has to be
abbrev pub IsReadIn : {F S : Type 0} → (F → Option S) → Option S → Option F → Type 0
IsReadIn found state None = ⊥
IsReadIn found state (Some file) = IsFoundInState found state file
