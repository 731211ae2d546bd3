-- What an index run over files by their names did, by its result.
use Rattle.std.specs.Prelude.{◌≡◌, ◌<◌, ℕ, List, length, map, Option, Some, Result, Ok, Err, IfErr, OnOk}
use Rattle.std.specs.Bool.{OnFalse, OnTrue}
use Rattle.std.specs.Io.KnownBytes.{Appends}
use Rattle.contract_words.specs.Devices.{Sends}
use Rattle.index_job.specs.ArchiveRefusals.{AreSound}
use Rattle.index_job.specs.ArchiveTables.{Mbox, table}
use Rattle.index_run.specs.ArchivesIndexed.{mboxes}
use Rattle.index_run.specs.IndexRuns.{IsIndexRunFault}
use Rattle.mail_index.specs.Files.{index_file}
use Rattle.mail_index.specs.Tables.{IsWellFormed, Table}
use Rattle.mairix_run.specs.Answered.{FailsWithCauses}
use Rattle.mbox_cutter.specs.declared.device.Out.{Ghosts}
use Rattle.mbox_cutter.specs.declared.event.CutFault.TheVariants.{Device}
use Rattle.run_faults.specs.Faults.{fault_in, is_failed_out, IsOfIndexing}
use Rattle.run_faults.specs.declared.fault.Fault.{Fault}
use Rattle.run_faults.specs.declared.fault.Fault.TheVariants.{Archive}

-- With status 0 the archives are sound, and the output took their index file. A failed read was of one of the archives,
-- and any other fault is one that such a run can have.
abbrev pub IsIndexRunResult : List Mbox → Option (List ℕ) → Option (List ℕ) → Result ℕ Fault → Type 0
IsIndexRunResult archives old new (Ok status) =
    (status ≡ 0) × AreSound archives × Appends old new (index_file (table archives))
IsIndexRunResult archives old new (Err (Archive number Device)) = number < length archives
IsIndexRunResult archives old new (Err fault) = IsIndexRunFault archives old new fault

-- What an index run does over the files to which some paths lead.
pub record IndexesFiles {O : Type 0} (o : Ghosts O) (paths : List (List ℕ)) (files : List (Option (List ℕ)))
    (AreKnown ReadFails : Type 0) (result : Result ℕ Fault) (out out' : O) : Type 0 where
  -- the index is that of the bytes of these files, or the fault is theirs
  pub by_bytes : (bytes : List (List ℕ)) → files ≡ map Some bytes → AreKnown
      → IsIndexRunResult (mboxes paths bytes) (o.taken out) (o.taken out') result
  -- whatever bytes the files have, what is sent is an index file, or a front of one
  pub formed : OnOk result ((t : Table) × IsWellFormed t × Appends (o.taken out) (o.taken out') (index_file t))
  pub front : OnTrue (is_failed_out (fault_in result))
      ((t : Table) × IsWellFormed t × Sends (o.taken out) (o.taken out') (index_file t))
  pub kinds : IfErr result (λ fault. OnFalse (is_failed_out (Some fault)) (IsOfIndexing fault))
  pub silent : IfErr result (λ fault. OnFalse (is_failed_out (Some fault)) (out' ≡ out))
  pub causes : FailsWithCauses files ReadFails (fault_in result) (o.failures out) (o.failures out')
