-- Runs whose works are done in the same way, and refused in the same way.
use Rattle.std.proofs.Common.{arith, ℕ, List, Option, Result, Ok}
use Rattle.mbox_cutter.specs.declared.device.Out.{Ghosts}
use Rattle.named_files.specs.Entries.{Entry}
use Rattle.named_files.specs.declared.folder.Folder.{Ghosts as FolderGhosts}
use Rattle.run_faults.specs.declared.fault.Fault.{Fault}
use Rattle.mairix_options.specs.declared.command_line.Plan.{Plan}
use Rattle.mairix_options.specs.declared.rcfile.Rc.{Rc}
use Rattle.mairix_tool.specs.Asked.{Wanted}
use Rattle.mairix_run.proofs.IndexReplies.{same_replies}
use Rattle.mairix_run.specs.IndexReads.{IsIndexRead}
use Rattle.mairix_run.specs.Inside.RunParts.{Ran}
use Rattle.mairix_run.specs.Stops.{Ending}
use Rattle.mairix_run.specs.Tasks.{Work, IsDone, IsWorkRefused, search_task}
use Rattle.mairix_run.specs.Tasks.Work.{SearchStored}
use Rattle.mairix_run.specs.WholeRuns.{DoesFor, KeepsFile}
use Rattle.run_faults.specs.declared.fault.Fault.TheVariants.{Out}

-- the searches of two indexes are done in the same way, and refused in the same way
pub record AreAlike (wanted : Result Wanted Fault) (index other : List ℕ) (bytes : List (List ℕ)) : Type 0 where
  pub done : (status : ℕ) (text : List ℕ) → IsDone (SearchStored wanted index bytes) status text
      → IsDone (SearchStored wanted other bytes) status text
  pub done_too : (status : ℕ) (text : List ℕ) → IsDone (SearchStored wanted other bytes) status text
      → IsDone (SearchStored wanted index bytes) status text
  pub refused : (fault : Fault) → IsWorkRefused (SearchStored wanted index bytes) fault
      → IsWorkRefused (SearchStored wanted other bytes) fault

module _ (wanted : Result Wanted Fault) (index other : List ℕ) (bytes : List (List ℕ))
    (alike : AreAlike wanted index other bytes) where
  abbrev Old : Work
  Old = SearchStored wanted index bytes

  abbrev New : Work
  New = SearchStored wanted other bytes

  keeps-alike : (ReadsAgree : Type 0) (file : Option (List ℕ)) (before now : List ℕ → Entry) (ended : Ending)
      → KeepsFile ReadsAgree Old file before now ended → KeepsFile ReadsAgree New file before now ended
  keeps-alike ReadsAgree file before now ended keeps = grind arith

  module _ {D F S N L R M A O : Type 0} (f : FolderGhosts D F S N L R M A) (o : Ghosts O) (handed_on : O
      → Option (List ℕ)) (ReadsAgree : Type 0) where
    does-alike : (file : Option (List ℕ)) (read : List (List ℕ)) (old new : D) (out out' : O) (ended : Ending)
        → DoesFor f o handed_on ReadsAgree Old file read old new out out' ended
        → DoesFor f o handed_on ReadsAgree New file read old new out out' ended
    does-alike file read old new out out' ended h = grind arith

    pub ran-alike : (names : List (List ℕ)) (p : Plan) (rc : Rc) (old new : D) (out out' : O) (ended : Ending)
        → Ran f o handed_on ReadsAgree names (Ok (search_task p rc Old)) old new out out' ended
        → Ran f o handed_on ReadsAgree names (Ok (search_task p rc New)) old new out out' ended
    ran-alike names p rc old new out out' ended ran = grind (arith, keeps-alike, does-alike)

-- what is read of an index is searched as the whole file is
pub alike-read : (wanted : Result Wanted Fault) (all read : List ℕ) (bytes : List (List ℕ)) → IsIndexRead all read
    → AreAlike wanted read all bytes
unfolding IsDone IsWorkRefused
alike-read wanted all read bytes is = grind (arith, same_replies)
