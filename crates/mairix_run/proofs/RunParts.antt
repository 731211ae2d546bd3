-- What the parts of a run do, put together.
use Rattle.std.proofs.Common.{◌≡◌, ◌⊎◌, subst, sym, ℕ, List, [], Option, None, Some, Result, Ok, arith}
use Rattle.std.specs.List.{Contains}
use Rattle.mbox_cutter.specs.declared.device.Out.{Ghosts}
use Rattle.named_archives.specs.Progress.{CannotRead}
use Rattle.named_files.specs.Crashes.{LeavesOnly}
use Rattle.named_files.specs.Entries.{Entry}
use Rattle.named_files.specs.declared.folder.Folder.{Ghosts as FolderGhosts}
use Rattle.mairix_run.proofs.RunStages.{Ends}
use Rattle.mairix_run.specs.Inside.RunParts.{Ran, ReplacesFile}
use Rattle.mairix_run.specs.NamesUsed.{both_names}
use Rattle.mairix_run.specs.Stops.{Ending}
use Rattle.mairix_run.specs.Tasks.{Task}
use Rattle.mairix_run.specs.WholeRuns.{WritesWork}
use Rattle.run_faults.specs.declared.fault.Fault.TheVariants.{Out}

-- two runs, one after the other
pub follows : {D : Type 0} (moment : D → ℕ) (left_since : D → ℕ → List ℕ → Entry → Type 0) (old mid new : D)
    (P Q : List ℕ → Entry → Type 0) → LeavesOnly moment left_since old mid P → LeavesOnly moment left_since mid new Q
    → ((n : List ℕ) (c : Entry) → Q n c → P n c) → LeavesOnly moment left_since old new P
follows moment left_since old mid new P Q first later weaker = grind arith

module _ {D F S N L R M A O : Type 0} (f : FolderGhosts D F S N L R M A) (o : Ghosts O)
    (handed_on : O → Option (List ℕ)) (ReadsAgree : Type 0) where
  -- it ends so before anything is changed
  pub ran-ended : (names : List (List ℕ)) (task : Result Task Ending) (old : D) (out : O) (ended : Ending)
      → ((n : List ℕ) (c : Entry) → f.left_since old (f.moment old) n c → f.may_leave old n c)
      → Ends names f.can_refuse f.reads_can_fail task ended
      → Ran f o handed_on ReadsAgree names task old old out out ended
  ran-ended names task old out ended only_now ends = grind arith

  -- the answer goes to standard output
  pub ran-printed : (task : Task) → task.file ≡ None → (old : D) (out out' : O) (ended : Ending)
      → ((n : List ℕ) (c : Entry) → f.left_since old (f.moment old) n c → f.may_leave old n c)
      → (ReadsAgree → WritesWork o handed_on (CannotRead f.can_refuse f.reads_can_fail) task.work out out' ended)
      → Ran f o handed_on ReadsAgree (both_names task.file) (Ok task) old old out out' ended
  ran-printed task none old out out' ended only_now writes = grind arith

  -- a file is made, or the run is stopped while it is
  pub ran-made : (task : Task) (name : List ℕ) → task.file ≡ Some name → (old new : D) (out : O) (ended : Ending)
      → ReplacesFile f ReadsAgree task.work task.read name old new ended
      → Ran f o handed_on ReadsAgree (both_names task.file) (Ok task) old new out out ended
  ran-made task name some old new out ended makes = grind arith

  -- the same run, of more names and by another word for its task
  pub ran-wider : (names more : List (List ℕ)) → ((path : List ℕ) → Contains names path → Contains more path)
      → (task other : Result Task Ending) → other ≡ task → (old new : D) (out out' : O) (ended : Ending)
      → Ran f o handed_on ReadsAgree names task old new out out' ended
      → Ran f o handed_on ReadsAgree more other old new out out' ended
  ran-wider names more wider task other same old new out out' ended ran =
      subst (λ t. Ran f o handed_on ReadsAgree more t old new out out' ended) (sym same) (grind arith)
