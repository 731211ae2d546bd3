-- The drafts of a builder while archives are indexed, and the faults of adding to them.
use Rattle.std.specs.Prelude.{◌≡◌, ⊤, ℕ, ◌<◌, ◌≤◌, ◌⊎◌, true, false, List, ◌++◌, length, map, Option, None, Some}
use Rattle.std.specs.Prelude.{Result}
use Rattle.std.specs.Result.{MatchResult}
use Rattle.mail_index.specs.declared.digests.Digests.{Digests}
use Rattle.mail_index.specs.declared.build.build_fault.BuildFault.{BuildFault}
use Rattle.mail_index.specs.declared.build.build_fault.BuildFault.TheVariants as build
use Rattle.mail_index.specs.Builders.{Draft, archive_count, end_of, IsBetweenArchives, IsInArchive, IsInMessage}
use Rattle.mail_index.specs.Builders.{IsWithinMost}
use Rattle.mbox_cutter.specs.Archives.{Message}
use Rattle.mbox_cutter.specs.declared.event.CutFault.{CutFault}
use Rattle.mbox_cutter.specs.declared.event.CutFault.TheVariants.{Device, NotAnMbox, ArchiveTooLong, Failed}
use Rattle.index_job.specs.declared.job_fault.JobFault.{JobFault}
use Rattle.index_job.specs.declared.job_fault.JobFault.TheVariants as job
use Rattle.index_job.specs.ArchiveTables.{Mbox, record_of, with_terms, with_messages, table_by}
use Rattle.mail_index.specs.Limits.{most_in_index}
use Rattle.index_job.specs.MessageTerms.{Term}

-- the draft of archives that have all ended, with their digests or without
abbrev pub draft_of_archives : Digests → List Mbox → Draft
draft_of_archives digests archives = record {
  most = most_in_index;
  path = None;
  in_message = false;
  table = table_by digests archives;
  failed = false;
}

-- the draft with these terms added to the open message
abbrev pub draft_with_terms : List Term → Draft → Draft
draft_with_terms ts d = record d {
  table =
      record d.table { keys = with_terms (length d.table.messages) ts d.table.keys };
}

-- the draft with these messages of the archive with this number
abbrev pub draft_with_messages : ℕ → List Message → Draft → Draft
draft_with_messages archive ms d = record d {
  table = record d.table {
    messages = d.table.messages ++ map (record_of archive) ms;
    keys = with_messages (length d.table.messages) ms d.table.keys;
  };
}

-- the draft has more messages or keys than are allowed
abbrev pub HasTooMany : Draft → Type 0
HasTooMany d = (d.most < length d.table.messages) ⊎ (d.most < length d.table.keys)

-- the archive with this number is open, no message is, and its messages so far end at this place or before it
pub record IsReadyForMessage (number place : ℕ) (d : Draft) : Type 0 where
  pub kept : d.failed ≡ false
  pub phase : IsInArchive d
  pub most : d.most ≡ most_in_index
  pub archive : archive_count d ≡ number
  pub after : end_of number d.table.messages ≤ place

-- a message of the archive with this number is open, and the messages before it end at this place or before it
pub record IsOpenAt (number place : ℕ) (d : Draft) : Type 0 where
  pub kept : d.failed ≡ false
  pub phase : IsInMessage d
  pub most : d.most ≡ most_in_index
  pub archive : archive_count d ≡ number
  pub after : end_of number d.table.messages ≤ place

-- this many archives have ended, none is open, and no count is above the limit
pub record IsIdle (number : ℕ) (d : Draft) : Type 0 where
  pub kept : d.failed ≡ false
  pub phase : IsBetweenArchives d
  pub most : d.most ≡ most_in_index
  pub archive : archive_count d ≡ number
  pub within : IsWithinMost d

-- ---- terms

-- the draft with all terms has too many keys, or an earlier call has failed
abbrev pub RefusesTerms : Draft → Type 0
RefusesTerms whole = whole.failed ≡ false → whole.most < length whole.table.keys

-- a fault of adding terms; `whole` is the draft with all of them
abbrev pub IsFaultOfAdding : Draft → BuildFault → Type 0
IsFaultOfAdding whole build.OutOfMemory = ⊤
IsFaultOfAdding whole build.TooMany = RefusesTerms whole
IsFaultOfAdding whole build.Failed = whole.failed ≡ true

-- these terms are added, or the fault is one of adding them
abbrev pub AddsTerms : {T : Type 0} → List Term → Result T BuildFault → Draft → Draft → Type 0
AddsTerms ts result old new = MatchResult result (λ _. new ≡ draft_with_terms ts old)
    (IsFaultOfAdding (draft_with_terms ts old))

-- ---- faults

-- A fault of indexing an archive. `refusal` is why its bytes are refused, if they are. `much` says that the index would
-- have too much.
abbrev pub IsJobFault : Option CutFault → Type 0 → JobFault → Type 0
IsJobFault refusal much (job.Cut Device) = ⊤
IsJobFault refusal much (job.Cut NotAnMbox) = refusal ≡ Some NotAnMbox
IsJobFault refusal much (job.Cut ArchiveTooLong) = refusal ≡ Some ArchiveTooLong
IsJobFault refusal much (job.Cut Failed) = ⊥
IsJobFault refusal much job.OutOfMemory = ⊤
IsJobFault refusal much job.TooMany = much
IsJobFault refusal much job.Failed = ⊥

-- any fault of a cutter but that it has failed before
abbrev pub IsCutFault : CutFault → Type 0
IsCutFault Failed = ⊥
IsCutFault _ = ⊤

-- any fault of indexing an archive but that an earlier call has failed
abbrev pub IsArchiveFault : JobFault → Type 0
IsArchiveFault (job.Cut fault) = IsCutFault fault
IsArchiveFault job.OutOfMemory = ⊤
IsArchiveFault job.TooMany = ⊤
IsArchiveFault job.Failed = ⊥
