-- What a search of files by their names returned and sent, compared with a right answer.
use Rattle.std.specs.Prelude.{◌≡◌, ◌&&◌, ◌||◌, ℕ, Bool, true, false, List, [], Option, None, Some, Result, Ok, Err}
use Rattle.std.specs.Prelude.{◌<◌, ◌≤◌, ◌^◌, ◌++◌, if◌then◌else◌, length, map, All, IfOk, IfSome}
use Rattle.std.specs.Borrow.{Bor}
use Rattle.std.specs.Bool.{MatchBool, OnTrue}
use Rattle.std.specs.Io.KnownBytes.{Appends}
use Rattle.std.specs.Result.{MatchResult}
use Rattle.contract_words.specs.Devices.{Counted, Sends}
use Rattle.index_job.specs.ArchiveRefusals.{AreSound}
use Rattle.index_job.specs.ArchiveTables.{Mbox, table}
use Rattle.index_run.specs.ArchivesIndexed.{mboxes}
use Rattle.mail_index.specs.Files.{index_file}
use Rattle.mail_index.specs.Tables.{IsPath}
use Rattle.mairix_tool.specs.Altered.{HaveDistinctDigests, altered_archive}
use Rattle.mairix_tool.specs.Asked.{Wanted}
use Rattle.mairix_tool.specs.OldTables.{ServesFor}
use Rattle.mairix_tool.specs.Replies.{Answer, KeepsRawBack, answer_of_fault}
use Rattle.mairix_tool.specs.Runs.{IsRefusedAs, IsReply, IsStaleOr, IsStoredReply, IsThisOrMemory}
use Rattle.mairix_tool.specs.declared.reply.Reply.{Reply}
use Rattle.run_faults.specs.Faults.{fault_in, is_early, is_failed_out, is_failure, is_of_index, is_of_indexing}
use Rattle.run_faults.specs.Faults.{IsOnceFault, IsSearchFault}
use Rattle.mbox_cutter.specs.declared.device.Out.{Ghosts}
use Rattle.mbox_cutter.specs.declared.event.CutFault.TheVariants.{Device as Unread}
use Rattle.run_faults.specs.declared.fault.Fault.{Fault}
use Rattle.run_faults.specs.declared.fault.Fault.TheVariants.{Archive, Device, Memory, TooMany}

-- the right answers of a search: by a stored index, or by the messages of archives with these bytes
abbrev pub IsReplyBy : Result Wanted Fault → Option (Bor (List ℕ)) → List (List ℕ) → Answer → Type 0
IsReplyBy asked None bytes = IsReply asked bytes
IsReplyBy asked (Some index) bytes = IsStoredReply asked index.now bytes

-- With a status: a right answer has it and no fault, and the output took its text. With a fault of a device or of
-- memory, the output took a front of each right answer. Any other fault is right, and nothing was sent.
abbrev pub AnswersBy : (Answer → Type 0) → Result ℕ Fault → Option (List ℕ) → Option (List ℕ) → Type 0
AnswersBy IsRight (Ok status) old new =
    (answer : Answer) × IsRight answer × (answer.reply.fault ≡ None) × (answer.reply.status ≡ status)
    × Appends old new answer.text
AnswersBy IsRight (Err fault) old new =
    MatchBool (is_failure (Some fault))
    ((answer : Answer) → IsRight answer → Sends old new answer.text)
    (IsRight (answer_of_fault fault) × Appends old new [])

-- When the answer by a stored index is that of the archives' own messages, over archives with these bytes.
pub record AnswersByMessages (asked : Result Wanted Fault) (index : List ℕ) (bytes : List (List ℕ))
    (result : Result ℕ Fault) (old new : Option (List ℕ)) : Type 0 where
  -- if these archives are sound, and the index is theirs, or says the same of them
  pub indexed : (w : Wanted) → asked ≡ Ok w → length w.paths ≡ length bytes → AreSound (mboxes w.paths bytes)
      → ServesFor w (table (mboxes w.paths bytes)) index → AnswersBy (IsReply (Ok w) bytes) result old new
  -- With `--verify`, if the index is that of any sound archives, and SHA-256 distinguishes these from those that there
  -- are now. Or one of those that there are now is reported as altered.
  pub verified : (w : Wanted) (before : List Mbox) → asked ≡ Ok w → w.verify ≡ true
      → All (λ a. IsPath a.path) before → AreSound before → index ≡ index_file (table before)
      → HaveDistinctDigests (map (λ a. a.bytes) before ++ bytes)
      → AnswersBy (IsStaleOr (altered_archive before w.paths bytes) (IsReply (Ok w) bytes)) result old new

-- the status of a reply, or its fault
abbrev pub result_by : ℕ → Option Fault → Result ℕ Fault
result_by status None = Ok status
result_by status (Some fault) = Err fault

abbrev pub result_of_reply : Reply → Result ℕ Fault
result_of_reply reply = result_by reply.status reply.fault

-- What is refused whatever bytes the archives have: words, rcfile or query; then a stored index.
abbrev pub IsRefusedFirst : Result Wanted Fault → Option (Bor (List ℕ)) → Fault → Type 0
IsRefusedFirst asked None fault = asked ≡ Err fault
IsRefusedFirst asked (Some index) fault = IsRefusedAs asked index.now fault

-- What a search over this number of archives does if it is refused before any of them is read. The output before it is
-- `out`, that after it `out'`. The reports before it are `old`, those after it `new`.
pub record RefusesBeforeReading {O R : Type 0} (asked : Result Wanted Fault) (index : Option (Bor (List ℕ)))
    (count : ℕ) (result : Result ℕ Fault) (out out' : O) (old new : R) : Type 0 where
  -- What is refused is the fault, unless memory runs out. Nothing is sent.
  pub first : (fault : Fault) → count < 2 ^ 32 → IsRefusedFirst asked index fault
      → IsThisOrMemory fault (fault_in result) × (out' ≡ out)
  -- If there are too many archives, that is the fault. Nothing is sent, and nothing is reported of a file.
  pub too_many : 2 ^ 32 ≤ count → (result ≡ Err TooMany) × (out' ≡ out) × (new ≡ old)

-- a fault that a search can have: without a stored index none of an index, with one none of indexing
abbrev pub IsSearchFaultBy : Option (Bor (List ℕ)) → Fault → Type 0
IsSearchFaultBy None fault = IsOnceFault fault
IsSearchFaultBy (Some index) fault = IsSearchFault fault

-- whether words, rcfile, query or index are refused, or the archives can't be indexed: then nothing is searched
abbrev pub comes_before : Option Fault → Bool
comes_before fault = is_early fault || is_of_index fault || is_of_indexing fault

-- When a search sends nothing.
pub record LeavesUnsent {O : Type 0} (asked : Result Wanted Fault) (fault : Option Fault) (old new : O) : Type 0 where
  -- if words, rcfile, query or index are refused, or the archives can't be indexed
  pub silent : OnTrue (comes_before fault) (new ≡ old)
  -- if a raw answer finds the archives changed or can't read them
  pub raw : IfOk asked (λ w. KeepsRawBack w.search fault old new)

-- whether an archive couldn't be read
abbrev pub is_unread : Option Fault → Bool
is_unread (Some (Archive number Unread)) = true
is_unread (Some Device) = true
is_unread _ = false

-- Why a search fails that reads these files.
pub record FailsWithCauses (files : List (Option (List ℕ))) (ReadFails : Type 0) (fault : Option Fault)
    (before after : ℕ) : Type 0 where
  -- a failed read has a cause, if each file is there
  pub unread : (bytes : List (List ℕ)) → files ≡ map Some bytes → OnTrue (is_unread fault) ReadFails
  -- the output's count of failures rises by one exactly if the output failed
  pub out_failed : Counted (is_failed_out fault) before after

-- What a search does over archives that have some bytes if `AreHeld` says so of these bytes, unless there are too many.
pub record SearchesFiles {O : Type 0} (o : Ghosts O) (asked : Result Wanted Fault) (index : Option (Bor (List ℕ)))
    (AreFew : Type 0) (AreHeld : List (List ℕ) → Type 0) (files : List (Option (List ℕ))) (ReadFails : Type 0)
    (result : Result ℕ Fault) (out out' : O) : Type 0 where
  pub answers : AreFew → (bytes : List (List ℕ)) → AreHeld bytes
      → AnswersBy (IsReplyBy asked index bytes) result (o.taken out) (o.taken out')
  pub by_messages : IfSome index (λ index. AreFew → (bytes : List (List ℕ)) → AreHeld bytes
      → AnswersByMessages asked index.now bytes result (o.taken out) (o.taken out'))
  pub refused : (fault : Fault) → AreFew → IsRefusedFirst asked index fault
      → IsThisOrMemory fault (fault_in result) × (out' ≡ out)
  pub ending : MatchResult result (λ status. status ≤ 1) (λ fault. AreFew → IsSearchFaultBy index fault)
  pub unsent : LeavesUnsent asked (fault_in result) out out'
  pub causes : FailsWithCauses files ReadFails (fault_in result) (o.failures out) (o.failures out')

-- what was written; but if memory ran out as an archive was opened, its failed read is lack of memory
abbrev pub result_with_memory : Bool → Result ℕ Fault → Result ℕ Fault
result_with_memory lacks_memory (Ok status) = Ok status
result_with_memory lacks_memory (Err fault) = Err (if lacks_memory && is_unread (Some fault) then Memory else fault)
