-- What a search of a stored index promises: its reply by the archives' own messages, what it counts, what it leaves as
-- it was, and why it fails.
use Rattle.std.specs.Prelude.{◌≡◌, ◌++◌, ℕ, true, List, length, map, All, Option, Result, Ok, IfOk, IfSome}
use Rattle.index_job.specs.ArchiveRefusals.{AreSound}
use Rattle.index_job.specs.ArchiveTables.{Mbox, table}
use Rattle.index_run.specs.ArchivesIndexed.{mboxes}
use Rattle.mail_index.specs.Files.{index_file}
use Rattle.mail_index.specs.Tables.{IsPath, Table}
use Rattle.run_faults.specs.Faults.{IsSearchFault}
use Rattle.run_faults.specs.declared.fault.Fault.{Fault}
use Rattle.mairix_tool.specs.Altered.{HaveDistinctDigests, altered_archive}
use Rattle.mairix_tool.specs.Asked.{Wanted}
use Rattle.mairix_tool.specs.OldTables.{ServesFor}
use Rattle.mairix_tool.specs.Replies.{Answer, IsConsistent, KeepsRawBack}
use Rattle.mairix_tool.specs.Runs.{IsCountedWhere, IsForNoOtherCause, IsRefusedAs, IsReply, IsStaleOr, IsThisOrMemory}
use Rattle.mairix_tool.specs.Runs.{RepliesBy, WereVerified}
use Rattle.mairix_tool.specs.declared.reply.Reply.{Reply}

-- When the reply is by the archives' own messages, over archives with these bytes.
pub record RepliesByMessages (asked : Result Wanted Fault) (index : List ℕ) (bytes : List (List ℕ)) (reply : Reply)
    (old new : Option (List ℕ)) : Type 0 where
  -- if the archives are sound, under the rcfile's paths, and the index is theirs, or says the same of them
  pub indexed : (w : Wanted) → asked ≡ Ok w → length w.paths ≡ length bytes → AreSound (mboxes w.paths bytes)
      → ServesFor w (table (mboxes w.paths bytes)) index → RepliesBy (IsReply (Ok w) bytes) reply old new
  -- With `--verify`, if the index is that of any sound archives, and SHA-256 distinguishes these from those that there
  -- are now. Or one of those that there are now is reported as altered.
  pub verified : (w : Wanted) (before : List Mbox) → asked ≡ Ok w → w.verify ≡ true
      → All (λ a. IsPath a.path) before → AreSound before → index ≡ index_file (table before)
      → HaveDistinctDigests (map (λ a. a.bytes) before ++ bytes)
      → RepliesBy (IsStaleOr (altered_archive before w.paths bytes) (IsReply (Ok w) bytes)) reply old new

-- An answer has the number of messages that the table chooses. With `--verify` there is one only if the bytes that were
-- read had the lengths and the SHA-256 that were indexed.
pub record CountsVerified (t : Table) (w : Wanted) (held : Option (List (List ℕ))) (reply : Reply)
    (old new : Option (List ℕ)) : Type 0 where
  pub counted : IsCountedWhere t w.search held reply.fault reply old new
  pub read : WereVerified t.archives w.verify reply.fault

-- When a search reads no archive, or sends nothing.
pub record LeavesUnread {A O : Type 0} (asked : Result Wanted Fault) (index : List ℕ) (fault : Option Fault)
    (old new : A) (before after : O) : Type 0 where
  -- if words, rcfile, query, index, its version or its paths are refused, the fault is that refusal, unless memory runs
  -- out; no archive is read, and nothing is sent
  pub refused : (refusal : Fault) → IsRefusedAs asked index refusal
      → IsThisOrMemory refusal fault × (new ≡ old) × (after ≡ before)
  -- nor is anything sent if a raw answer finds the archives changed or can't read them
  pub raw : IfOk asked (λ w. KeepsRawBack w.search fault before after)

-- Why a search fails.
pub record FailsStored (asked : Result Wanted Fault) (index : List ℕ) (reply : Reply) : Type 0 where
  -- a fault of words, rcfile, query, index or its version comes only if that is refused with it
  pub refused : IfSome reply.fault (IsForNoOtherCause asked index)
  -- Each fault is one that a search can have, and has its status and no messages. Without a fault the status is 0 with
  -- messages and 1 without.
  pub status : IsConsistent IsSearchFault reply reply.fault
