-- For which names a run makes a file, by which calls, and what becomes of it.
use Rattle.std.specs.Prelude.{◌≡◌, ◌⊎◌, ℕ, nat_eq, nat_lt, Bool, true, false, not, ◌&&◌, ◌||◌, if◌then◌else◌}
use Rattle.std.specs.Prelude.{List, length, Option, None, Some, IfSome, Result, Ok, Err, is_ok, codes}
use Rattle.std.specs.List.{ends_with}
use Rattle.std.specs.Option.{option_or}
use Rattle.std.specs.String.{string_bytes}
use Rattle.named_files.specs.Entries.{Entry, Nothing, File, Folder, Other, Leads, SameWhere}
use Rattle.named_files.specs.Reported.{is_free}
use Rattle.named_files.specs.TakingNames.{TakesName}
use Rattle.named_files.specs.declared.name_fault.NameFault.{NameFault}
use Rattle.named_files.specs.declared.refusal.Refusal.{Refusal}
use Rattle.named_files.specs.declared.refusal.Refusal.TheVariants as why
use Rattle.run_faults.specs.declared.fault.Fault.{Fault}
use Rattle.run_faults.specs.declared.fault.Fault.TheVariants.{Memory, Out}
use Rattle.mairix_run.specs.ReadFiles.{are_all_apart}
use Rattle.mairix_run.specs.declared.stopped.Stopped.{Stopped}
use Rattle.mairix_run.specs.declared.stopped.Stopped.TheVariants as by

-- whether a name can be that of a complete file: it has bytes, doesn't end with `/`, and isn't a temporary name, which
-- ends with `.new`
abbrev pub is_final_name : List ℕ → Bool
is_final_name name = nat_lt 0 (length name)
    && (not (ends_with nat_eq name (codes "/")) && not (ends_with nat_eq name (codes ".new")))

-- Which of both names is refused, whatever they lead to: a name that can't be that of a complete file, one that another
-- file can't take without changing one that is read, or a temporary name that another file can't take without changing
-- what the name leads to. None if neither is.
abbrev pub unfit_name : (List ℕ → List ℕ → Bool) → List (List ℕ) → List ℕ → List ℕ → Option (List ℕ)
unfit_name apart read temporary name = if not (is_final_name name && are_all_apart apart read name) then Some name
    else (if are_all_apart apart read temporary && apart name temporary then None else Some temporary)

-- whether a name leads to a device, a pipe or a socket
abbrev pub is_special : Entry → Bool
is_special Nothing = false
is_special (File bytes) = false
is_special Folder = false
is_special Other = true

-- whether nothing has a name, or only what a killed run left
abbrev pub is_open_to : (List ℕ → Entry) → (List ℕ → Bool) → List ℕ → Bool
is_open_to holds is_leftover temporary = is_free (holds temporary) || is_leftover temporary

-- Which of both names is refused for what it leads to: a name of something special, or a temporary name of something
-- that no killed run left. None if neither is.
abbrev pub taken_name : (List ℕ → Entry) → (List ℕ → Bool) → List ℕ → List ℕ → Option (List ℕ)
taken_name holds is_leftover temporary name = if is_special (holds name) then Some name
    else (if is_open_to holds is_leftover temporary then None else Some temporary)

-- A file may be made: neither name is refused.
pub record MayBeMade (holds : List ℕ → Entry) (apart : List ℕ → List ℕ → Bool) (is_leftover : List ℕ → Bool)
    (read : List (List ℕ)) (temporary name : List ℕ) : Type 0 where
  -- neither is refused whatever it leads to
  pub fit : unfit_name apart read temporary name ≡ None
  -- another file under the temporary name doesn't change what the name leads to
  pub names_apart : apart name temporary ≡ true
  -- nor for what it leads to
  pub plain : is_special (holds name) ≡ false
  pub free : is_open_to holds is_leftover temporary ≡ true

-- The run is stopped for the first name that is refused, or for one of both because the system refused a call, or for
-- lack of memory.
abbrev pub IsRefusal : Option (List ℕ) → Option (List ℕ) → List ℕ → List ℕ → Type 0 → Stopped → Type 0
IsRefusal unfit taken temporary name CanRefuse (by.CannotOpen path) = (option_or unfit taken ≡ Some (string_bytes path))
    ⊎ ((unfit ≡ None) × ((string_bytes path ≡ temporary) ⊎ (string_bytes path ≡ name)) × CanRefuse)
IsRefusal unfit taken temporary name CanRefuse (by.Fault fault) = fault ≡ Memory

-- The run is stopped because no file is made.
pub record IsNotMade {D : Type 0} (unfit taken : Option (List ℕ)) (temporary name : List ℕ) (CanRefuse : Type 0)
    (old new : D) (stopped : Stopped) : Type 0 where
  pub refusal : IsRefusal unfit taken temporary name CanRefuse stopped
  -- if a name is refused, whatever it leads to, nothing is touched
  pub untouched : (unfit ≡ None) ⊎ (new ≡ old)

-- what a killed run left under the temporary name is removed, or nothing is
abbrev pub IsCleared : {D : Type 0} → (D → List ℕ → Bool → D → Type 0) → List ℕ → D → D → Type 0
IsCleared removes temporary old new = (new ≡ old) ⊎ removes old temporary true new

-- The calls by which a file is made: what a killed run left is removed, and then a file is made. If a call fails, there
-- is none after it.
abbrev pub MakesFile : {D : Type 0} → (D → List ℕ → Bool → D → Type 0) → (D → List ℕ → Bool → D → Type 0) → List ℕ
    → Bool → D → D → Type 0
MakesFile {D} removes creates temporary true old new =
    (free : D) × IsCleared removes temporary old free × creates free temporary true new
MakesFile {D} removes creates temporary false old new = (new ≡ old) ⊎ (removes old temporary false new
    ⊎ ((free : D) × IsCleared removes temporary old free × creates free temporary false new))

-- the fault of a run whose file was refused its name
abbrev pub fault_of_refusal : Refusal → Fault
fault_of_refusal why.Refused = Out
fault_of_refusal why.Memory = Memory

-- what is reported of a file that was written: the fault of the run; its status; or that the output failed, or that
-- memory ran out
abbrev pub IsSettled : Result ℕ Fault → Result ℕ Fault → Type 0
IsSettled (Err fault) result = result ≡ Err fault
IsSettled (Ok status) result = (result ≡ Ok status) ⊎ ((result ≡ Err Out) ⊎ (result ≡ Err Memory))

-- The calls by which it is settled: after a fault it is removed; otherwise it takes its name, and that fails if and
-- only if the result is a fault.
abbrev pub SettlesFile : {D : Type 0} → (D → List ℕ → Bool → Bool → D → Type 0) → (D → List ℕ → Bool → D → Type 0)
    → (D → D → Type 0) → List ℕ → Result ℕ Fault → Result ℕ Fault → D → D → Type 0
SettlesFile renames syncs discards name (Err fault) result old new = discards old new
SettlesFile renames syncs discards name (Ok status) result old new = (named : Result (Unit {0}) NameFault)
    × (is_ok named ≡ is_ok result) × TakesName renames syncs discards name named old new

-- The name leads to all that a file took, also after a crash.
pub record LeadsForGood (now : Entry) (may_leave : Entry → Type 0) (taken : Option (List ℕ)) : Type 0 where
  pub named : Leads now taken
  pub kept : IfSome taken (λ bytes. (c : Entry) → may_leave c → c ≡ File bytes)

-- What names lead to after a file took its name, or was removed.
pub record LeadToOldOrNew (apart : List ℕ → List ℕ → Bool) (temporary name : List ℕ) (taken : Option (List ℕ))
    (old new : List ℕ → Entry) : Type 0 where
  -- each that is apart from both names: what it led to before
  pub others : SameWhere (λ n. apart n temporary && apart n name) old new
  -- the name itself, if it is apart from the temporary name: that, or all that the file took
  pub old_or_new : apart name temporary ≡ true → (new name ≡ old name) ⊎ Leads (new name) taken
