-- What an output took for the work of a run, by what its parts say.
use Rattle.std.proofs.Common.{◌≡◌, ◌∙◌, ◌⊎◌, ◌≤◌, ◌<◌, ◌^◌, ℕ, Bool, true, false, List, [], Option, None, Some, Result, Ok, Err, length, IfErr, OnOk, ◌+◌, arith}
use Rattle.std.proofs.lemmas.Bool.Decides.{nat_tests}
use Rattle.std.specs.Bool.{OnFalse, OnTrue}
use Rattle.std.specs.Borrow.{Bor}
use Rattle.std.specs.Option.{option_map}
use Rattle.std.specs.Io.KnownBytes.{Appends}
use Rattle.contract_words.specs.Devices.{Counted, Sends}
use Rattle.index_job.specs.ArchiveTables.{Mbox}
use Rattle.mairix_tool.specs.Asked.{Wanted}
use Rattle.mairix_tool.specs.Replies.{Answer}
use Rattle.mairix_tool.specs.Runs.{IsReply, IsStoredReply}
use Rattle.mbox_cutter.specs.declared.device.Out.{Ghosts}
use Rattle.mbox_cutter.specs.declared.event.CutFault.TheVariants.{Device as Unread}
use Rattle.run_faults.specs.Faults.{fault_in, is_failed_out}
use Rattle.run_faults.specs.declared.fault.Fault.{Fault}
use Rattle.run_faults.specs.declared.fault.Fault.TheVariants.{Index, Device, Out, TooMany}
use Rattle.mairix_run.proofs.Replies.{appends-none, sends-none}
use Rattle.mairix_run.specs.Answered.{AnswersBy, IsReplyBy, is_unread}
use Rattle.mairix_run.specs.LastFlush.{IsFlushed}
use Rattle.mairix_run.specs.Indexed.{IsIndexRunResult}
use Rattle.mairix_run.specs.Tasks.{Work, IsAnswered, IsDone, IsRefusedSearch, IsWorkRefused, search_work}
use Rattle.mairix_run.specs.Tasks.Work.{Index as IndexWork}
use Rattle.mairix_run.specs.WholeRuns.{IsFailure, IsWritten}

-- so has what was written
pub written-weaker : (A B ReadFails : Type 0) (work : Work) (old new : Option (List ℕ)) (result : Result ℕ Fault)
    → (A → B) → IsWritten A ReadFails work old new result → IsWritten B ReadFails work old new result
written-weaker A B ReadFails work old new result follows is = grind arith

-- a device of which one more call has failed has failed
pub once-failed : (before after : ℕ) → after ≡ before + 1 → 0 < after
once-failed before after is = omega (arith, is)

-- ---- an answer

module _ (Is : Answer → Type 0) (bytes : List (List ℕ)) (OutFails ReadFails : Type 0) (old new : Option (List ℕ)) where
  -- the same as `IsWritten`, for an answer that is one of these
  abbrev IsAnswerWritten : Result ℕ Fault → Type 0
  IsAnswerWritten (Ok status) = (text : List ℕ) × IsAnswered Is status text × Appends old new text
  IsAnswerWritten (Err fault) = (IsRefusedSearch Is bytes fault × Appends old new [])
      ⊎ (IsFailure OutFails ReadFails fault ×
      (((status : ℕ) (text : List ℕ) → IsAnswered Is status text → Sends old new text)
      ⊎ ((status : ℕ) × (text : List ℕ) × IsAnswered Is status text × Appends old new text)))

  answer-written : (result : Result ℕ Fault) → (is_failed_out (fault_in result) ≡ true → OutFails)
      → OnTrue (is_unread (fault_in result)) ReadFails → AnswersBy Is result old new → IsAnswerWritten result
  answer-written result cause read h = grind arith

-- what a search wrote, with or without a stored index, if it isn't of too many archives
pub searched-written : (wanted : Result Wanted Fault) (index : Option (Bor (List ℕ))) (bytes : List (List ℕ))
    (OutFails ReadFails : Type 0) (old new : Option (List ℕ)) (result : Result ℕ Fault)
    → (is_failed_out (fault_in result) ≡ true → OutFails) → OnTrue (is_unread (fault_in result)) ReadFails
    → AnswersBy (IsReplyBy wanted index bytes) result old new
    → IsWritten OutFails ReadFails (search_work wanted (option_map (λ i. i.now) index) bytes) old new result
unfolding IsDone IsWorkRefused
searched-written wanted None bytes OutFails ReadFails old new (Ok status) =
    answer-written (IsReply wanted bytes) bytes OutFails ReadFails old new (Ok status)
searched-written wanted None bytes OutFails ReadFails old new (Err fault) =
    answer-written (IsReply wanted bytes) bytes OutFails ReadFails old new (Err fault)
searched-written wanted (Some i) bytes OutFails ReadFails old new (Ok status) =
    answer-written (IsStoredReply wanted i.now bytes) bytes OutFails ReadFails old new (Ok status)
searched-written wanted (Some i) bytes OutFails ReadFails old new (Err fault) =
    answer-written (IsStoredReply wanted i.now bytes) bytes OutFails ReadFails old new (Err fault)

-- there were too many archives
pub too-many-searched : (wanted : Result Wanted Fault) (index : Option (Bor (List ℕ))) (bytes : List (List ℕ))
    (OutFails ReadFails : Type 0) (t : Option (List ℕ)) (result : Result ℕ Fault) → 2 ^ 32 ≤ length bytes → result
    ≡ Err TooMany
    → IsWritten OutFails ReadFails (search_work wanted (option_map (λ i. i.now) index) bytes) t t result
unfolding IsDone IsWorkRefused
too-many-searched wanted index bytes OutFails ReadFails t result many is = grind (arith, appends-none)

-- ---- an index

-- nothing was sent, but for a fault of the output
pub silent-of : {O : Type 0} (taken : O → Option (List ℕ)) (old new : O) (result : Result ℕ Fault)
    → IfErr result (λ fault. OnFalse (is_failed_out (Some fault)) (new ≡ old))
    → (fault : Fault) → result ≡ Err fault → is_failed_out (Some fault) ≡ false → taken new ≡ taken old
silent-of taken old new result silent fault is not = grind arith

-- what an index run wrote: a fault that isn't of the output comes before anything is sent
pub indexed-written : (archives : List Mbox) (OutFails ReadFails : Type 0) (old new : Option (List ℕ))
    (result : Result ℕ Fault)
    → (is_failed_out (fault_in result) ≡ true → OutFails) → OnTrue (is_unread (fault_in result)) ReadFails
    → ((fault : Fault) → result ≡ Err fault → is_failed_out (Some fault) ≡ false → new ≡ old)
    → IsIndexRunResult archives old new result → IsWritten OutFails ReadFails (IndexWork archives) old new result
unfolding IsDone IsWorkRefused
indexed-written archives OutFails ReadFails old new result cause read silent is =
    grind (arith, sends-none, appends-none)

-- ---- causes and counts

-- a number is below another one, or isn't
pub few-or-many : (n m : ℕ) → (n < m) ⊎ (m ≤ n)
few-or-many n m = grind (arith, nat_tests)

pub counted-once : (failed : Bool) (old new : ℕ) → Counted failed old new → failed ≡ true → new ≡ old + 1
counted-once failed old new is has = grind arith

-- ---- on standard output

-- what was written, and then flushed
pub flushed-writes : {O : Type 0} (o : Ghosts O) (handed_on : O → Option (List ℕ)) (ReadFails : Type 0) (w : Work)
    (out mid new : O)
    (written result : Result ℕ Fault)
    → IsWritten (o.failures mid ≡ o.failures out + 1) ReadFails w (o.taken out) (o.taken mid) written
    → Counted (is_failed_out (fault_in written)) (o.failures out) (o.failures mid)
    → IsFlushed o handed_on written mid new result
    → IsWritten (o.failures new ≡ o.failures out + 1) ReadFails w (o.taken out) (o.taken new) result
    × OnOk result (handed_on new ≡ o.taken new)
flushed-writes o handed_on ReadFails w out mid new written result is count h = grind arith
