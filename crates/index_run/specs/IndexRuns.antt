-- The faults of a run that sends an index file to an output.
use Rattle.std.specs.Prelude.{ℕ, List, Option}
use Rattle.contract_words.specs.Devices.{Sends}
use Rattle.mail_index.specs.Files.{index_file}
use Rattle.run_faults.specs.declared.fault.Fault.{Fault}
use Rattle.run_faults.specs.declared.fault.Fault.TheVariants.{Out}
use Rattle.index_job.specs.ArchiveRefusals.{AreSound}
use Rattle.index_job.specs.ArchiveTables.{Mbox, table}
use Rattle.index_run.specs.ArchivesIndexed.{IsArchivesFault}

-- The fault of such a run. For Out the archives are sound, and a beginning of their file was sent. Any other fault is
-- one that indexing these archives can have.
abbrev pub IsIndexRunFault : List Mbox → Option (List ℕ) → Option (List ℕ) → Fault → Type 0
IsIndexRunFault archives old new Out = AreSound archives × Sends old new (index_file (table archives))
IsIndexRunFault archives old new fault = IsArchivesFault archives fault
