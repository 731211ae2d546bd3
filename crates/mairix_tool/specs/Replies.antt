-- The reply of a run and its text, and what is true of each reply.
use Rattle.std.specs.Prelude.{◌≡◌, ⊤, ℕ, List, [], take, false, nat_eq, if◌then◌else◌, Option, None, Some, Result, Ok}
use Rattle.std.specs.Prelude.{Err}
use Rattle.std.specs.Bool.{MatchBool, OnTrue}
use Rattle.mail_answer.specs.Answers.{CountsFailures}
use Rattle.mail_answer.specs.Mail.{Search}
use Rattle.mail_answer.specs.declared.archives.Archives.{Ghosts}
use Rattle.mail_answer.specs.declared.format.Format.TheVariants.{Raw}
use Rattle.mbox_cutter.specs.declared.device.Out.{Ghosts as OutGhosts}
use Rattle.run_faults.specs.declared.fault.Fault.{Fault}
use Rattle.run_faults.specs.declared.fault.Fault.TheVariants.{Archive}
use Rattle.mairix_tool.specs.declared.reply.Reply.{Reply}
use Rattle.index_job.specs.ArchiveRefusals.{AreSound}
use Rattle.index_run.specs.ArchivesIndexed.{mboxes}
use Rattle.mairix_tool.specs.Asked.{Wanted}
use Rattle.run_faults.specs.Faults.{status_of_fault, is_changed_or_unread, is_early, is_failed_archives, is_failed_out}
use Rattle.run_faults.specs.Faults.{is_memory}

-- ---- the answer

-- the text that is sent, and the reply
pub record Answer : Type 0 where
  pub text : List ℕ
  pub reply : Reply

-- the status of an answer with this many messages
abbrev pub status_of_count : ℕ → ℕ
status_of_count messages = if nat_eq messages 0 then 1 else 0

-- the answer with no text, for a fault
abbrev pub answer_of_fault : Fault → Answer
answer_of_fault fault = record {
  text = [];
  reply =
      record { status = status_of_fault fault; messages = 0; fault = Some fault };
}

-- ---- what a run returned, compared with that

-- a fault is one that such a run can have, with its status and no messages; without a fault, the status is that of the
-- number of messages
abbrev pub IsConsistent : (Fault → Type 0) → Reply → Option Fault → Type 0
IsConsistent CanHave reply None = reply.status ≡ status_of_count reply.messages
IsConsistent CanHave reply (Some fault) = CanHave fault × (reply.status ≡ status_of_fault fault) × (reply.messages ≡ 0)

-- a refusal of words, rcfile or query is the fault, whatever the devices do, unless memory runs out; if none is
-- refused, the fault isn't such a refusal
abbrev pub RefusesAsked : Result Wanted Fault → Option Fault → Type 0
RefusesAsked (Ok w) fault = is_early fault ≡ false
RefusesAsked (Err refusal) fault = MatchBool (is_memory fault) ⊤ (fault ≡ Some refusal)

-- if the fault is one of an archive, the archives before it are sound
abbrev pub AreSoundBefore : Result Wanted Fault → List (List ℕ) → Option Fault → Type 0
AreSoundBefore (Ok w) archives (Some (Archive number fault)) = AreSound (take number (mboxes w.paths archives))
AreSoundBefore _ archives _ = ⊤

-- If a raw answer finds the archives changed or can't read them, nothing was sent.
abbrev pub KeepsRawBack : {O : Type 0} → Search → Option Fault → O → O → Type 0
KeepsRawBack s fault old new = s.format ≡ Raw → OnTrue (is_changed_or_unread fault) (new ≡ old)

-- The count of failures of the archives rises by one exactly if their failure is the fault, and so does the output's.
abbrev pub CountsFault : {A O : Type 0} → Ghosts A → OutGhosts O → Option Fault → A → A → O → O → Type 0
CountsFault g h fault old new before after =
    CountsFailures g h (is_failed_archives fault) (is_failed_out fault) old new before after
