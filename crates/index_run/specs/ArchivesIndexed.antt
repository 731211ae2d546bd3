-- The archives of a run, and the faults that indexing them can have.
use Rattle.std.specs.Prelude.{◌≡◌, ⊤, ℕ, List, [], ◌∷◌, ◌++◌, length}
use Rattle.mbox_cutter.specs.declared.event.CutFault.TheVariants.{Device, NotAnMbox, ArchiveTooLong, Failed}
use Rattle.run_faults.specs.declared.fault.Fault.{Fault}
use Rattle.run_faults.specs.declared.fault.Fault.TheVariants.{Archive, TooMany, Memory}
use Rattle.index_job.specs.declared.job_fault.JobFault.{JobFault}
use Rattle.index_job.specs.declared.job_fault.JobFault.TheVariants as job
use Rattle.index_job.specs.ArchiveTables.{Mbox}
use Rattle.index_job.specs.ArchiveRefusals.{AreSound, IsCutOff, IsOneTooMany}

-- the archives with these paths and these bytes, in order
abbrev pub mboxes : List (List ℕ) → List (List ℕ) → List Mbox
mboxes [] bytes = []
mboxes (path ∷ paths) [] = []
mboxes (path ∷ paths) (b ∷ bytes) = record { path = path; bytes = b } ∷ mboxes paths bytes

-- the archives are those before, the archive a, and those after it
pub record Parted (archives before : List Mbox) (a : Mbox) : Type 0 where
  pub after : List Mbox
  pub whole : archives ≡ before ++ a ∷ after

-- the archives are refused with this fault: the first archive that is refused, or the first that is too much together
-- with those before it
abbrev pub RefusesArchives : List Mbox → Fault → Type 0
RefusesArchives archives (Archive number fault) = (before : List Mbox) × (a : Mbox) × Parted archives before a
    × (number ≡ length before) × IsCutOff before a fault
RefusesArchives archives TooMany = (before : List Mbox) × (a : Mbox) × Parted archives before a × IsOneTooMany before a
RefusesArchives archives _ = ⊥

-- the source with this number failed: it is that of an archive, and all archives before it are sound
abbrev pub FailsAt : List Mbox → ℕ → Type 0
FailsAt archives number = (before : List Mbox) × (a : Mbox) × Parted archives before a × (number ≡ length before)
    × AreSound before

-- a fault that indexing these archives can have: their refusal, a failed source, or lack of memory
abbrev pub IsArchivesFault : List Mbox → Fault → Type 0
IsArchivesFault archives (Archive number Device) = FailsAt archives number
IsArchivesFault archives (Archive number NotAnMbox) = RefusesArchives archives (Archive number NotAnMbox)
IsArchivesFault archives (Archive number ArchiveTooLong) = RefusesArchives archives (Archive number ArchiveTooLong)
IsArchivesFault archives (Archive number Failed) = ⊥
IsArchivesFault archives TooMany = RefusesArchives archives TooMany
IsArchivesFault archives Memory = ⊤
IsArchivesFault archives _ = ⊥

-- the fault of a run for a job's fault at the archive with this number; the last never comes, because the job isn't
-- used after a fault
abbrev pub run_fault_of_job : ℕ → JobFault → Fault
run_fault_of_job number (job.Cut fault) = Archive number fault
run_fault_of_job number job.OutOfMemory = Memory
run_fault_of_job number job.TooMany = TooMany
run_fault_of_job number job.Failed = Archive number Failed
