-- What an indexing job has made so far, and the faults of adding an archive.
use Rattle.std.specs.Prelude.{◌≡◌, ⊤, ℕ, ◌<◌, List, [], ◌∷◌, ◌++◌, length, None, Some}
use Rattle.std.specs.Prelude.{Result, false}
use Rattle.std.specs.Result.{MatchResult}
use Rattle.mail_index.specs.Builders.{Draft, IsLost}
use Rattle.mail_index.specs.declared.digests.Digests.{Digests}
use Rattle.mbox_cutter.specs.declared.event.CutFault.TheVariants.{Device, NotAnMbox, ArchiveTooLong, Failed}
use Rattle.mbox_cutter.specs.Events.{archive_refusal}
use Rattle.index_job.specs.declared.job_fault.JobFault.{JobFault}
use Rattle.index_job.specs.declared.job_fault.JobFault.TheVariants as job
use Rattle.index_job.specs.ArchiveTables.{Mbox, messages_in, table}
use Rattle.mail_index.specs.Limits.{most_in_archive, most_in_index}
use Rattle.index_job.specs.ArchiveRefusals.{IsTooMuch, IsWithinLimit}
use Rattle.index_job.specs.Indexing.{draft_of_archives}

-- a job: whether it computes digests, and what it has made so far
pub record Job : Type 0 where
  pub digests : Digests
  pub draft : Draft

-- the job has the table of these archives, with their digests or without
abbrev pub IsIndexOf : Job → List Mbox → Type 0
IsIndexOf job archives = job.draft ≡ draft_of_archives job.digests archives

-- the job has the table of these archives and one more, which isn't refused and has this many messages
pub record IsAdded (before : List Mbox) (a : Mbox) (count : ℕ) (job : Job) : Type 0 where
  pub sound : archive_refusal most_in_archive a.bytes ≡ None
  pub within : IsWithinLimit (table (before ++ a ∷ []))
  pub counted : count ≡ length (messages_in a.bytes)
  pub whole : IsIndexOf job (before ++ a ∷ [])

-- after a call, the job computes digests if it did so before; with a fault it has lost everything
pub record GoesOn {T E : Type 0} (result : Result T E) (old new : Job) : Type 0 where
  pub digests : new.digests ≡ old.digests
  pub kept : MatchResult result (λ _. new.draft.failed ≡ false) (λ _. IsLost new.draft)

-- A fault of adding an archive: its bytes are refused, unless it is one archive too many; or there is too much with it;
-- or the source or memory failed.
abbrev pub IsAddFault : List Mbox → Mbox → JobFault → Type 0
IsAddFault before a (job.Cut Device) = ⊤
IsAddFault before a (job.Cut NotAnMbox) = (length before < most_in_index)
    × (archive_refusal most_in_archive a.bytes ≡ Some NotAnMbox)
IsAddFault before a (job.Cut ArchiveTooLong) = (length before < most_in_index)
    × (archive_refusal most_in_archive a.bytes ≡ Some ArchiveTooLong)
IsAddFault before a (job.Cut Failed) = ⊥
IsAddFault before a job.OutOfMemory = ⊤
IsAddFault before a job.TooMany = IsTooMuch (table (before ++ a ∷ []))
IsAddFault before a job.Failed = ⊥
