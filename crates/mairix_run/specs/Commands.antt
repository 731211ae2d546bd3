-- A run of the words of a command line, as the program makes it: all that is said of the run, in one place.
use Rattle.std.specs.Prelude.{◌≡◌, ℕ, Bool, List, Option, All}
use Rattle.std.specs.declared.io.ErrorKind.{ErrorKind}
use Rattle.mairix_options.specs.CommandLine.{plan}
use Rattle.mbox_cutter.specs.declared.device.Out.{Ghosts}
use Rattle.named_files.specs.Crashes.{LeavesOnly}
use Rattle.named_files.specs.Entries.{SameWhere}
use Rattle.named_files.specs.declared.folder.Folder.{Ghosts as FolderGhosts}
use Rattle.mairix_run.specs.AskedNames.{AsksOnlyFor}
use Rattle.mairix_run.specs.FirstStates.{OnAnswer}
use Rattle.mairix_run.specs.NamesUsed.{names_of_words, names_used}
use Rattle.mairix_run.specs.Reports.{ReportsEnding, ReportsFault, fault_of_unread}
use Rattle.mairix_run.specs.Stops.{Ending}
use Rattle.mairix_run.specs.Tasks.{task_of}
use Rattle.mairix_run.specs.WholeRuns.{CallsFor, RunLeaves, Runs, file_made, is_left_alone, names_kept}

-- What is so of a run of these words at this second: of each clause of `run_program` the same. `ReadsAgree` is about
-- what was reported as the archives were read, and `Agrees` about all else that was reported. `ReadsInState` says that
-- each archive was read only in a state in which the run first found one.
pub record RunsProgram {D F S N L R M A O E : Type 0} (f : FolderGhosts D F S N L R M A) (o : Ghosts O)
    (handed_on : O → Option (List ℕ)) (e : Ghosts E) (IsUsageText : List ℕ → Type 0) (CanRunOut : Type 0)
    (words : List (List ℕ)) (second : ℕ) (Agrees ReadsAgree ReadsInState : Type 0) (old new : D)
    (made made' : List (List ℕ × Bool)) (out out' : O) (err err' : E) (status : ℕ) : Type 0 where
  pub run : (ended : Ending) × (printed : O)
      × ReportsEnding o handed_on e IsUsageText CanRunOut ended status printed out' err err'
      × (Agrees → Runs f o handed_on ReadsAgree (names_used (f.holds old) (plan words))
      (task_of (f.holds old) words second) old new out printed ended
      × CallsFor f (file_made (task_of (f.holds old) words second)) ended old new)
      × OnAnswer (plan words) ended ReadsInState
  pub read : Agrees → All (λ n. f.holds new n ≡ f.holds old n) (names_kept (task_of (f.holds old) words second))
  pub alone : Agrees → SameWhere (is_left_alone (f.apart old) (file_made (task_of (f.holds old) words second)))
      (f.holds old) (f.holds new)
  pub any_moment : Agrees → LeavesOnly f.moment f.left_since old new
      (RunLeaves (f.apart old) (f.may_leave old) ReadsAgree (task_of (f.holds old) words second))
  pub named : AsksOnlyFor (names_of_words (f.holds old) (plan words)) made made'

-- The words of a command line can't be had, for this reason. That is reported, and nothing else is done.
abbrev pub ReportsUnread : {D M O E : Type 0} → Ghosts E → Type 0 → ErrorKind → ℕ → D → D → M → M → O → O → E → E
    → Type 0
ReportsUnread e CanRunOut kind status old new names names' out out' err err' =
    ReportsFault e CanRunOut (fault_of_unread kind) status err err' × (new ≡ old) × (names' ≡ names) × (out' ≡ out)
