-- What each part of a run does: the run's own clauses, for the task that the part has.
use Rattle.std.specs.Prelude.{◌≡◌, ◌⊎◌, ℕ, All, List, [], ◌∷◌, Option, Some, Result}
use Rattle.mbox_cutter.specs.declared.device.Out.{Ghosts}
use Rattle.named_archives.specs.Progress.{CannotRead}
use Rattle.named_files.specs.Crashes.{LeavesOnly}
use Rattle.named_files.specs.Entries.{SameWhere}
use Rattle.named_files.specs.declared.folder.Folder.{Ghosts as FolderGhosts}
use Rattle.mairix_run.specs.Stops.{Ending}
use Rattle.mairix_run.specs.Tasks.{Task, Work}
use Rattle.mairix_run.specs.WholeRuns.{CallsFor, IsTrouble, KeepsOld, LeavesInMaking, MakesFor, Puts, RunLeaves, Runs}
use Rattle.mairix_run.specs.WholeRuns.{file_made, is_left_alone, names_kept, refused_name, temporary_of}

-- The clauses of a run that uses some names, by its task, or by its first refusal.
pub record Ran {D F S N L R M A O : Type 0} (f : FolderGhosts D F S N L R M A) (o : Ghosts O)
    (handed_on : O → Option (List ℕ)) (ReadsAgree : Type 0) (names : List (List ℕ)) (task : Result Task Ending)
    (old new : D) (out out' : O) (ended : Ending) : Type 0 where
  pub run : Runs f o handed_on ReadsAgree names task old new out out' ended
  pub read : All (λ n. f.holds new n ≡ f.holds old n) (names_kept task)
  pub alone : SameWhere (is_left_alone (f.apart old) (file_made task)) (f.holds old) (f.holds new)
  pub any_moment : LeavesOnly f.moment f.left_since old new (RunLeaves (f.apart old) (f.may_leave old) ReadsAgree task)
  pub calls : CallsFor f (file_made task) ended old new

module _ {D F S N L R M A : Type 0} (f : FolderGhosts D F S N L R M A) (ReadsAgree : Type 0) (work : Work)
    (read : List (List ℕ)) (name : List ℕ) where
  -- the file isn't made, because of trouble with one of its names, or because one is refused; or it has the work
  abbrev pub MakesOrStops : D → D → Ending → Type 0
  MakesOrStops old new ended = IsTrouble (name ∷ temporary_of name ∷ []) f.can_refuse f.reads_can_fail ended
      ⊎ MakesFor (refused_name (f.holds old) (f.apart old) (f.is_leftover old) work read name) (λ e. ReadsAgree
      → Puts (f.can_refuse ⊎ f.writes_can_fail) (CannotRead f.can_refuse f.reads_can_fail) work (f.holds new name) e)
      ended

  -- The clauses of a run that has a file with this name to make.
  pub record ReplacesFile (old new : D) (ended : Ending) : Type 0 where
    pub run : MakesOrStops old new ended
    -- without success the name leads to what it led to before; or, if only its own name failed, to the whole text
    pub keeps : KeepsOld ReadsAgree work (f.holds old name) (f.holds new name) ended
    -- each file that is read, and each other one, stays as it is
    pub kept : All (λ n. f.holds new n ≡ f.holds old n) read
    pub alone : SameWhere (is_left_alone (f.apart old) (Some name)) (f.holds old) (f.holds new)
    pub any_moment : LeavesOnly f.moment f.left_since old new
        (LeavesInMaking (f.apart old) (f.may_leave old) ReadsAgree work name)
    pub calls : CallsFor f (Some name) ended old new
