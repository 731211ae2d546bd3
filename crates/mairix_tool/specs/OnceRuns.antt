-- What a run promises that indexes its archives itself: what it leaves as it was, why it fails, and what it counts and
-- keeps.
use Rattle.std.specs.Prelude.{◌≡◌, ◌||◌, ℕ, List, map, Option, Result, IfOk, is_err}
use Rattle.std.specs.Bool.{OnTrue}
use Rattle.contract_words.specs.Knowledge.{AreStillKnown}
use Rattle.index_run.specs.Counts.{CountsSources}
use Rattle.index_run.specs.SourcesStay.{SourcesStay}
use Rattle.mail_answer.specs.Asked.{HoldsArchives}
use Rattle.mail_answer.specs.declared.archives.Archives.{Ghosts}
use Rattle.mbox_cutter.specs.declared.device.Out.{Ghosts as OutGhosts}
use Rattle.mbox_cutter.specs.declared.device.Source.{Ghosts as SourceGhosts}
use Rattle.run_faults.specs.Faults.{IsOnceFault, is_early, is_of_indexing}
use Rattle.run_faults.specs.declared.fault.Fault.{Fault}
use Rattle.mairix_tool.specs.Asked.{Wanted}
use Rattle.mairix_tool.specs.Replies.{AreSoundBefore, CountsFault, IsConsistent, KeepsRawBack, RefusesAsked}
use Rattle.mairix_tool.specs.declared.reply.Reply.{Reply}

-- When a run uses no device, or sends nothing.
pub record LeavesUnused {S A O : Type 0} (asked : Result Wanted Fault) (fault : Option Fault) (unread read : List S)
    (old new : A) (before after : O) : Type 0 where
  -- no device is used if words, rcfile or query are refused, or if memory ran out before that was found
  pub refused : OnTrue (is_early fault || is_err asked) ((read ≡ unread) × (new ≡ old) × (after ≡ before))
  -- if the archives aren't indexed, nothing is searched, and nothing was sent
  pub silent : OnTrue (is_of_indexing fault) ((new ≡ old) × (after ≡ before))
  -- nor was it if a raw answer finds them changed or can't read them
  pub raw : IfOk asked (λ w. KeepsRawBack w.search fault before after)

-- Why a run fails. Of the sources these bytes were known before and after it.
pub record FailsOnce (asked : Result Wanted Fault) (before after : List (Option (List ℕ)))
    (reply : Reply) : Type 0 where
  -- a refusal of words, rcfile or query is the result whatever the devices do, unless memory runs out
  pub refused : RefusesAsked asked reply.fault
  -- if the fault is one of an archive, no archive before it has one
  pub first : (bytes : List (List ℕ)) → AreStillKnown before after bytes → AreSoundBefore asked bytes reply.fault
  -- Each fault is one that such a run can have, and has its status and no messages. Without a fault the status is 0
  -- with messages and 1 without.
  pub status : IsConsistent IsOnceFault reply reply.fault

-- Each device's count of failures rises by one exactly if the device's failure is the fault.
pub record CountsOnce {S A O : Type 0} (f : SourceGhosts S) (g : Ghosts A) (h : OutGhosts O) (fault : Option Fault)
    (unread read : List S) (old new : A) (before after : O) : Type 0 where
  pub sources : CountsSources fault (map f.failures unread) (map f.failures read)
  pub others : CountsFault g h fault old new before after

-- What is known after a run was known before it.
pub record KeepsOnce {S A : Type 0} (f : SourceGhosts S) (g : Ghosts A) (fault : Option Fault) (unread read : List S)
    (old new : A) : Type 0 where
  -- Each source is still what it was. All of them are read to their ends if no archive is at fault, and those before
  -- it if one is; those after it aren't read.
  pub sources : SourcesStay f fault unread read
  -- what is known of the archives' bytes, their number, and the bytes of which they keep account
  pub archives : HoldsArchives g old new
