-- What a whole run does: how it ends, what standard output takes, which file it makes, and what it leaves alone.
use Rattle.std.specs.Prelude.{◌≡◌, ◌⊎◌, ⊤, ℕ, ◌+◌, Bool, true, false, ◌&&◌, if◌then◌else◌, List, [], ◌++◌, Option}
use Rattle.std.specs.Prelude.{None, Some}
use Rattle.std.specs.Prelude.{Result}
use Rattle.std.specs.Prelude.{Ok, Err, OnOk, codes}
use Rattle.std.specs.Io.KnownBytes.{Appends}
use Rattle.std.specs.List.{Contains}
use Rattle.std.specs.Option.{option_or}
use Rattle.contract_words.specs.Devices.{Sends}
use Rattle.mbox_cutter.specs.declared.device.Out.{Ghosts}
use Rattle.mbox_cutter.specs.declared.event.CutFault.TheVariants.{Device as Unread}
use Rattle.named_archives.specs.Progress.{CannotRead}
use Rattle.named_files.specs.Entries.{Entry, File, IsFileOf}
use Rattle.named_files.specs.declared.folder.Folder.{Ghosts as FolderGhosts}
use Rattle.run_faults.specs.declared.fault.Fault.{Fault}
use Rattle.run_faults.specs.declared.fault.Fault.TheVariants.{Archive, Device, Out, Memory}
use Rattle.mairix_run.specs.MadeFiles.{MakesFile, SettlesFile, taken_name, unfit_name}
use Rattle.mairix_run.specs.OldIndexes.{is_foreign}
use Rattle.mairix_run.specs.Stops.{Ending, ending_by}
use Rattle.mairix_run.specs.Stops.Ending.{Done, CannotOpen, Because}
use Rattle.mairix_run.specs.Tasks.{Task, Work, IsDone, IsWorkRefused}
use Rattle.mairix_run.specs.Tasks.Work.{Index, SearchNew, SearchStored}

-- the name that a file has until it is whole
abbrev pub temporary_of : List ℕ → List ℕ
temporary_of name = name ++ codes ".new"

-- ---- what stops a run though it has a task

-- A file with one of these names can't be opened or made because the system refuses that or a read fails; or memory ran
-- out.
abbrev pub IsTrouble : List (List ℕ) → Type 0 → Type 0 → Ending → Type 0
IsTrouble names CanRefuse ReadsCanFail (Done status) = ⊥
IsTrouble names CanRefuse ReadsCanFail (CannotOpen path) = Contains names path × (CanRefuse ⊎ ReadsCanFail)
IsTrouble names CanRefuse ReadsCanFail (Because fault) = fault ≡ Memory

-- the output failed, or an archive couldn't be read, each for its cause; or memory ran out
abbrev pub IsFailure : Type 0 → Type 0 → Fault → Type 0
IsFailure OutFails ReadFails (Archive number Unread) = ReadFails
IsFailure OutFails ReadFails Device = ReadFails
IsFailure OutFails ReadFails Out = OutFails
IsFailure OutFails ReadFails Memory = ⊤
IsFailure OutFails ReadFails _ = ⊥

-- ---- what is written, by its result

-- An output took the whole text; or nothing, if the work is refused. After a failure it took a front of the text, or
-- all of it.
abbrev pub IsWritten : Type 0 → Type 0 → Work → Option (List ℕ) → Option (List ℕ) → Result ℕ Fault → Type 0
IsWritten OutFails ReadFails work old new (Ok status) = (text : List ℕ) × IsDone work status text × Appends old new text
IsWritten OutFails ReadFails work old new (Err fault) = (IsWorkRefused work fault × Appends old new [])
    ⊎ (IsFailure OutFails ReadFails fault
    × (((status : ℕ) (text : List ℕ) → IsDone work status text → Sends old new text)
    ⊎ ((status : ℕ) × (text : List ℕ) × IsDone work status text × Appends old new text)))

-- ---- what is written to standard output

-- It took what is written, and without a fault it has handed on all of it.
abbrev pub WritesWork : {O : Type 0} → Ghosts O → (O → Option (List ℕ)) → Type 0 → Work → O → O → Ending → Type 0
WritesWork o handed_on ReadFails work out out' ended = (result : Result ℕ Fault) × (ended ≡ ending_by result)
    × IsWritten (o.failures out' ≡ o.failures out + 1) ReadFails work (o.taken out) (o.taken out') result
    × OnOk result (handed_on out' ≡ o.taken out')

-- ---- what is written to a file

-- the file has the whole text; otherwise the work is refused, or there was a failure
abbrev pub Puts : Type 0 → Type 0 → Work → Entry → Ending → Type 0
Puts OutFails ReadFails work now (Done status) = (text : List ℕ) × IsDone work status text × (now ≡ File text)
Puts OutFails ReadFails work now (CannotOpen path) = ⊥
Puts OutFails ReadFails work now (Because fault) = IsWorkRefused work fault ⊎ IsFailure OutFails ReadFails fault

-- whether a name leads to a file that isn't replaced: a new index takes the place of an index or of an empty file alone
abbrev pub is_kept : Work → Entry → Bool
is_kept (Index archives) entry = is_foreign entry
is_kept (SearchNew wanted bytes) entry = false
is_kept (SearchStored wanted index bytes) entry = false

-- which name the file can't have; None if it can have both its own name and its temporary name
abbrev pub refused_name : (List ℕ → Entry) → (List ℕ → List ℕ → Bool) → (List ℕ → Bool) → Work → List (List ℕ)
    → List ℕ → Option (List ℕ)
refused_name holds apart is_leftover work read name = if is_kept work (holds name) then Some name
    else option_or (unfit_name apart read (temporary_of name) name)
    (taken_name holds is_leftover (temporary_of name) name)

-- The run ends because a name can't be had. A file is made only if there is no such name.
abbrev pub MakesFor : Option (List ℕ) → (Ending → Type 0) → Ending → Type 0
MakesFor refused IsMade ended = ((path : List ℕ) × (refused ≡ Some path) × (ended ≡ CannotOpen path))
    ⊎ ((refused ≡ None) × IsMade ended)

-- ---- what the name of the file leads to

-- the whole text of the work, with some status
abbrev pub IsTextOf : Work → List ℕ → Type 0
IsTextOf work text = (status : ℕ) × IsDone work status text

-- Without success, what it led to before. If only the output failed, or memory ran out, as the file took its name, that
-- or the whole text; of the text nothing is said unless the reads agree.
abbrev pub KeepsOld : Type 0 → Work → Entry → Entry → Ending → Type 0
KeepsOld ReadsAgree work before now (Done status) = ⊤
KeepsOld ReadsAgree work before now (CannotOpen path) = now ≡ before
KeepsOld ReadsAgree work before now (Because Out) = (now ≡ before) ⊎ (ReadsAgree → IsFileOf (IsTextOf work) now)
KeepsOld ReadsAgree work before now (Because Memory) = (now ≡ before) ⊎ (ReadsAgree → IsFileOf (IsTextOf work) now)
KeepsOld ReadsAgree work before now (Because fault) = now ≡ before

-- the same of the file of a task, if it has one
abbrev pub KeepsFile : Type 0 → Work → Option (List ℕ) → (List ℕ → Entry) → (List ℕ → Entry) → Ending → Type 0
KeepsFile ReadsAgree work None before now ended = ⊤
KeepsFile ReadsAgree work (Some name) before now ended = KeepsOld ReadsAgree work (before name) (now name) ended

-- ---- a whole run, by its task, or by its first refusal

-- `ReadsAgree`: all that was reported as the archives were read agrees with what they hold. Only what is said of the
-- work, its text or its fault, needs that.
module _ {D F S N L R M A O : Type 0} (f : FolderGhosts D F S N L R M A) (o : Ghosts O)
    (handed_on : O → Option (List ℕ)) (ReadsAgree : Type 0) where
  -- What a task does: it writes to standard output, or makes a file and writes nothing there. The states before are
  -- `old` and `out`, those after it `new` and `out'`.
  abbrev pub DoesFor : Work → Option (List ℕ) → List (List ℕ) → D → D → O → O → Ending → Type 0
  DoesFor work None read old new out out' ended =
      ReadsAgree → WritesWork o handed_on (CannotRead f.can_refuse f.reads_can_fail) work out out' ended
  DoesFor work (Some name) read old new out out' ended = (out' ≡ out)
      × MakesFor (refused_name (f.holds old) (f.apart old) (f.is_leftover old) work read name) (λ e. ReadsAgree
      → Puts (f.can_refuse ⊎ f.writes_can_fail) (CannotRead f.can_refuse f.reads_can_fail) work (f.holds new name) e)
      ended

  -- The run does its task, or ends by the first refusal. In trouble with one of the names it uses, it ends earlier, and
  -- nothing is written.
  abbrev pub Runs : List (List ℕ) → Result Task Ending → D → D → O → O → Ending → Type 0
  Runs names (Err why) old new out out' ended =
      (out' ≡ out) × ((ended ≡ why) ⊎ IsTrouble names f.can_refuse f.reads_can_fail ended)
  Runs names (Ok task) old new out out' ended =
      KeepsFile ReadsAgree task.work task.file (f.holds old) (f.holds new) ended
      × (((out' ≡ out) × IsTrouble names f.can_refuse f.reads_can_fail ended)
      ⊎ DoesFor task.work task.file task.read old new out out' ended)

-- ---- what it leaves alone

-- the name of the file that a run makes
abbrev pub file_made : Result Task Ending → Option (List ℕ)
file_made (Ok task) = task.file
file_made (Err why) = None

-- the names of the files that it reads, which stay
abbrev pub names_kept : Result Task Ending → List (List ℕ)
names_kept (Ok task) = task.read
names_kept (Err why) = []

-- whether a name is apart from the file that is made, and from its temporary name
abbrev pub is_left_alone : (List ℕ → List ℕ → Bool) → Option (List ℕ) → List ℕ → Bool
is_left_alone apart None n = true
is_left_alone apart (Some name) n = apart n (temporary_of name) && apart n name

-- ---- what a crash leaves

module _ (apart : List ℕ → List ℕ → Bool) (may_leave : List ℕ → Entry → Type 0) (ReadsAgree : Type 0) where
  -- A crash at any moment leaves under the name of the file that is made what it might have left before, or the new
  -- file, which has the whole text if the reads agree; and under each name that is left alone what it might have left
  -- before.
  abbrev pub LeavesInMaking : Work → List ℕ → List ℕ → Entry → Type 0
  LeavesInMaking work name n c = ((apart n (temporary_of name) && apart n name) ≡ true → may_leave n c)
      × (n ≡ name → may_leave name c ⊎ IsFileOf (λ text. ReadsAgree → IsTextOf work text) c)

  -- without a file, only what it might have left before
  abbrev pub LeavesFor : Work → Option (List ℕ) → List ℕ → Entry → Type 0
  LeavesFor work None n c = may_leave n c
  LeavesFor work (Some name) n c = LeavesInMaking work name n c

  abbrev pub RunLeaves : Result Task Ending → List ℕ → Entry → Type 0
  RunLeaves (Err why) n c = may_leave n c
  RunLeaves (Ok task) n c = LeavesFor task.work task.file n c

-- ---- which calls it makes

-- No call changes anything, unless a file is made: it is made, filled, and takes its name if the run succeeded, and is
-- removed otherwise.
module _ {D F S N L R M A : Type 0} (f : FolderGhosts D F S N L R M A) where
  abbrev pub MakesAndSettles : List ℕ → Ending → D → D → Type 0
  MakesAndSettles name ended old new = (made : D) × MakesFile f.removes f.creates (temporary_of name) true old made
      × (written : Result ℕ Fault) × (result : Result ℕ Fault) × (ended ≡ ending_by result)
      × SettlesFile f.renames f.syncs f.discards name written result made new

  abbrev pub CallsFor : Option (List ℕ) → Ending → D → D → Type 0
  CallsFor None ended old new = new ≡ old
  CallsFor (Some name) ended old new = (new ≡ old)
      ⊎ (MakesFile f.removes f.creates (temporary_of name) false old new ⊎ MakesAndSettles name ended old new)
