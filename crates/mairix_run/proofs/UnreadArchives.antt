-- A failed read of an archive has a cause. If memory ran out as it was opened, that is lack of memory.
use Rattle.std.proofs.Common.{◌≡◌, ◌∙◌, ◌⊎◌, ℕ, ◌<◌, ◌≤◌, ◌+◌, Bool, false, if◌then◌else◌, Option, Some, Result, Ok, Err, IfErr, List, map, slice_index, arith}
use Rattle.std.specs.Borrow.{Bor}
use Rattle.std.specs.Bool.{⊤, OnFalse, OnTrue}
use Rattle.std.specs.Result.{result_and}
use Rattle.contract_words.specs.Devices.{Counted}
use Rattle.mbox_cutter.specs.declared.event.CutFault.TheVariants.{Device as Unread}
use Rattle.run_faults.specs.Faults.{fault_in, is_failed_archives, is_failed_out, is_failed_source, IsOfIndexing, IsSearchFault}
use Rattle.run_faults.specs.declared.fault.Fault.{Fault}
use Rattle.run_faults.specs.declared.fault.Fault.TheVariants.{Archive, Device, Out, Memory}
use Rattle.mairix_tool.specs.Asked.{Wanted}
use Rattle.mairix_tool.specs.Replies.{Answer, IsConsistent}
use Rattle.mairix_tool.specs.declared.reply.Reply.{Reply}
use Rattle.mbox_cutter.specs.declared.device.Out.{Ghosts}
use Rattle.mairix_run.proofs.SearchedArchives.{if-some}
use Rattle.mairix_run.specs.Answered.{AnswersBy, IsSearchFaultBy, SearchesFiles, is_unread, result_with_memory}

-- ---- lack of memory in place of a failed read

-- an answer, or a front of one
answers-memory : (Is : Answer → Type 0) (old new : Option (List ℕ)) (lacks : Bool) (r result : Result ℕ Fault)
    → result ≡ result_with_memory lacks r → AnswersBy Is r old new → AnswersBy Is result old new
answers-memory Is old new = grind arith

-- lack of memory is a fault of any search
memory-searched : (index : Option (Bor (List ℕ))) → IsSearchFaultBy index Memory
memory-searched index = grind arith

-- what a search does, once its failed read has a cause or is lack of memory
pub searched-memory : {O : Type 0} (o : Ghosts O) (asked : Result Wanted Fault) (index : Option (Bor (List ℕ)))
    (AreFew : Type 0) (AreHeld AreHeldNow : List (List ℕ) → Type 0) (files : List (Option (List ℕ)))
    (ReadFails ReadFailsNow : Type 0) (out out' : O) (lacks : Bool) (r result : Result ℕ Fault)
    → result ≡ result_with_memory lacks r → ((bytes : List (List ℕ)) → AreHeldNow bytes → AreHeld bytes)
    → ((bytes : List (List ℕ)) → files ≡ map Some bytes → OnTrue (is_unread (fault_in result)) ReadFailsNow)
    → SearchesFiles o asked index AreFew AreHeld files ReadFails r out out'
    → SearchesFiles o asked index AreFew AreHeldNow files ReadFailsNow result out out'
searched-memory o asked index AreFew AreHeld AreHeldNow files ReadFails ReadFailsNow out out' lacks r result made held
    cause s = record {
      answers = λ few bytes now. grind arith;
      by_messages = if-some index _ _ (λ i is few bytes now. let by = is few bytes (held bytes now) in record {
        indexed = λ w asks many sound serves. grind arith;
        verified = λ w before asks verify paths sound file apart. answers-memory _ _ _ lacks r result made
            (by.verified w before asks verify paths sound file apart);
      }) s.by_messages;
      refused = grind arith;
      ending = grind (arith, memory-searched);
      unsent = grind arith;
      causes = record { unread = cause; out_failed = grind arith };
    }

-- ---- the cause of a failed read

module _ (Cause : Type 0) (lacks : Bool) (r : Result ℕ Fault)
    (source : (n : ℕ) → r ≡ Err (Archive n Unread) → lacks ≡ false → Cause)
    (archives : r ≡ Err Device → lacks ≡ false → Cause) where
  abbrev HasCause : Result ℕ Fault → Type 0
  HasCause result = OnTrue (is_unread (fault_in result)) Cause

  pub unread-cause : (result : Result ℕ Fault) → result ≡ result_with_memory lacks r → HasCause result
  unread-cause result made = grind arith

-- an archive that couldn't be read has a cause, since the count of failures that rose has one
pub reads-fail : (Cause : Type 0) (failures old : ℕ) (lacks : Bool) (r result : Result ℕ Fault)
    → result ≡ result_with_memory lacks r → OnTrue (is_unread (fault_in r)) ((old < failures) ⊎ Cause)
    → (0 < failures → lacks ≡ false → Cause) → OnTrue (is_unread (fault_in result)) Cause
reads-fail Cause failures old lacks r result made is cause = grind arith

-- a search of a stored index fails to read only if the count of failures rose
pub stored-reads : (reply : Reply) (old new : ℕ) (fault : Option Fault) → IsConsistent IsSearchFault reply fault
    → Counted (is_failed_archives fault) old new → OnTrue (is_unread fault) (old < new)
stored-reads reply old new fault is counted = grind arith

pub or-other : (b : Bool) (P Q : Type 0) → OnTrue b P → OnTrue b (P ⊎ Q)
or-other b P Q h = grind arith

pub on-any : (b : Bool) → OnTrue b ⊤
on-any b = grind arith

-- the count of the source that failed rose
pub source-counted : (counts : List ℕ) (n : ℕ) (fault : Option Fault) → fault ≡ Some (Archive n Unread)
    → ((k : ℕ) → Counted (is_failed_source k fault) 0 (slice_index counts k)) → 0 < slice_index counts n
source-counted counts n fault is counted = grind arith

-- the count of the archives rose
pub archives-counted : (fault : Option Fault) (old new : ℕ) → fault ≡ Some Device
    → Counted (is_failed_archives fault) old new → old < new
archives-counted fault old new is counted = grind arith

-- an index run has no failed read of an answer
pub indexing-reads : (Cause : Type 0) (sent : Result (Unit {0}) Fault)
    → IfErr sent (λ fault. OnFalse (is_failed_out (Some fault)) (IsOfIndexing fault)) → fault_in sent ≡ Some Device
    → Cause
indexing-reads Cause sent kinds is = grind arith

-- ---- what an index run sent, with its status

abbrev pub with_status : Result (Unit {0}) Fault → Result ℕ Fault
with_status sent = result_and sent (Ok 0)

-- the fault is the same
pub sent-fault : (sent : Result (Unit {0}) Fault) → fault_in (with_status sent) ≡ fault_in sent
sent-fault sent = grind arith
