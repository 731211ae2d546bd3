-- How a run ends before its task is known.
use Rattle.std.proofs.Common.{arith, ◌≡◌, ◌∙◌, ◌⊎◌, ℕ, List, Option, None, Result, Ok, Err, IfErr, IfSome, true, false, not, ◌&&◌, ◌==◌, if◌then◌else◌}
use Rattle.std.specs.List.{Contains}
use Rattle.std.specs.Option.{option_map_or}
use Rattle.contract_words.specs.Answers.{◌>>=◌, fault_as}
use Rattle.or_memory.specs.Refusals.{refusal}
use Rattle.or_memory.specs.declared.or_memory.OrMemory.{OrMemory}
use Rattle.or_memory.specs.declared.or_memory.OrMemory.TheVariants as given
use Rattle.named_files.specs.Refusals.{HasCause}
use Rattle.named_files.specs.declared.refusal.Refusal.{Refusal}
use Rattle.named_files.specs.declared.refusal.Refusal.TheVariants as why
use Rattle.run_faults.specs.declared.fault.Fault.{Fault}
use Rattle.mairix_run.specs.Stops.{Ending, IsGivenUnlessRefused, IsStoppedAt, IsStoppedBy, ending_of_stopped}
use Rattle.mairix_run.specs.Stops.Ending.{CannotOpen, Because}
use Rattle.mairix_run.specs.Tasks.{Task, because_rc, files_at, index_task, is_index_run, search_stored_task, search_task, task_of_plan, task_of_rc}
use Rattle.mairix_run.specs.Tasks.Work.{SearchNew, SearchStored}
use Rattle.mairix_options.specs.Rcfile.{rc_of}
use Rattle.mairix_options.specs.declared.command_line.Plan.{Plan}
use Rattle.mairix_options.specs.declared.rcfile.Rc.{Rc}
use Rattle.mairix_tool.specs.Asked.{Wanted, wanted_of_words}
use Rattle.named_files.specs.Entries.{Entry, File}
use Rattle.mairix_run.specs.WholeRuns.{IsTrouble}
use Rattle.mairix_run.specs.declared.stopped.Stopped.{Stopped}
use Rattle.mairix_run.specs.declared.stopped.Stopped.TheVariants as by

module _ (names : List (List ℕ)) (CanRefuse ReadsCanFail : Type 0) where
  -- the run ends by its first refusal, or in trouble
  abbrev pub Ends : Result Task Ending → Ending → Type 0
  Ends (Err why) ended = (ended ≡ why) ⊎ IsTrouble names CanRefuse ReadsCanFail ended
  Ends (Ok task) ended = IsTrouble names CanRefuse ReadsCanFail ended

  pub ends-trouble : (task : Result Task Ending) (ended : Ending) → IsTrouble names CanRefuse ReadsCanFail ended
      → Ends task ended
  ends-trouble task ended trouble = grind arith

  pub read-fails : {T : Type 0} (read : Result T Refusal) (known : Option (List ℕ)) (name : List ℕ)
      (next : List ℕ → Result Task Ending) (stopped : Stopped) → Contains names name
      → IsGivenUnlessRefused name read (Err stopped)
      → IfErr read (λ w. HasCause w ((known ≡ None) ⊎ (CanRefuse ⊎ ReadsCanFail)))
      → Ends (option_map_or Ok known (Err (CannotOpen name)) >>= next) (ending_of_stopped stopped)
  read-fails read known name next stopped among is cause = grind arith

  -- words, or an rcfile, are refused
  pub refusal-ends : {E V : Type 0} (of : E → Fault) (defined : Result V E) (next : V
      → Result Task Ending) (e : OrMemory E)
      (stopped : Stopped) → IfSome (refusal e) (λ f. defined ≡ Err f)
      → IsStoppedBy (λ f fault. fault ≡ of f) e stopped
      → Ends (fault_as (λ f. Because (of f)) defined >>= next) (ending_of_stopped stopped)
  refusal-ends of defined next e stopped is given = grind arith

  -- an archive that is missing, or can't be opened
  pub missing-stops : {V : Type 0} (found : Result V Ending) (name : List ℕ) (stopped : Stopped)
      → Contains names name → IsStoppedAt name stopped
      → (found ≡ Err (CannotOpen name)) ⊎ (CanRefuse ⊎ ReadsCanFail)
      → (found ≡ Err (ending_of_stopped stopped)) ⊎ IsTrouble names CanRefuse ReadsCanFail (ending_of_stopped stopped)
  missing-stops found name stopped among at cause = grind arith

  -- the task of archives that can't all be opened
  pub archives-end : {V : Type 0} (found : Result V Ending) (next : V → Result Task Ending) (ended : Ending)
      → (found ≡ Err ended) ⊎ IsTrouble names CanRefuse ReadsCanFail ended → Ends (found >>= next) ended
  archives-end found next ended h = grind arith

-- what was given, if it wasn't refused
pub given-ok : {T : Type 0} (path : List ℕ) (read : Result T Refusal) (value : T)
    → IsGivenUnlessRefused path read (Ok value) → read ≡ Ok value
given-ok path read value is = grind arith

-- the task of a plan whose rcfile is there
pub plan-read : (holds : List ℕ → Entry) (words : List (List ℕ)) (now : ℕ) (p : Plan) (text : List ℕ)
    → holds p.rcfile ≡ File text
    → task_of_plan holds words now p ≡ (fault_as because_rc (rc_of text)
    >>= task_of_rc holds (wanted_of_words words text now) p)
plan-read holds words now p text is = grind arith

-- ---- the task, once its archives are known

module _ (holds : List ℕ → Entry) (wanted : Result Wanted Fault) (p : Plan) (rc : Rc) (bytes : List (List ℕ))
    (found : files_at holds rc.paths ≡ Ok bytes) where
  pub task-index : is_index_run p ≡ true → task_of_rc holds wanted p rc ≡ Ok (index_task p rc bytes)
  task-index is = grind arith

  pub task-once : p.once ≡ true → task_of_rc holds wanted p rc ≡ Ok (search_task p rc (SearchNew wanted bytes))
  task-once is = grind arith

  pub task-stored : is_index_run p ≡ false → p.once ≡ false
      → task_of_rc holds wanted p rc ≡ search_stored_task holds wanted p rc bytes
  task-stored is not = grind arith

-- the task of a search by an index that is there
pub stored-read : (holds : List ℕ → Entry) (wanted : Result Wanted Fault) (p : Plan) (rc : Rc) (bytes : List (List ℕ))
    (index : List ℕ) → holds rc.database ≡ File index
    → search_stored_task holds wanted p rc bytes ≡ Ok (search_task p rc (SearchStored wanted index bytes))
stored-read holds wanted p rc bytes index is = grind arith
