-- Which archives are refused, and why.
use Rattle.std.specs.Prelude.{◌≡◌, ◌⊎◌, ◌<◌, ◌≤◌, List, [], ◌∷◌, ◌++◌, length, All, None, Some}
use Rattle.mail_index.specs.Limits.{most_in_archive, most_in_index}
use Rattle.mail_index.specs.Tables.{Table}
use Rattle.mbox_cutter.specs.declared.event.CutFault.{CutFault}
use Rattle.mbox_cutter.specs.Events.{archive_refusal}
use Rattle.index_job.specs.ArchiveTables.{Mbox, table}

-- the table has more archives, messages or keys than an index may have
abbrev pub IsTooMuch : Table → Type 0
IsTooMuch t = (most_in_index < length t.archives) ⊎ (most_in_index < length t.messages)
    ⊎ (most_in_index < length t.keys)

-- the table has no more archives, messages and keys than an index may have
pub record IsWithinLimit (t : Table) : Type 0 where
  pub archives : length t.archives ≤ most_in_index
  pub messages : length t.messages ≤ most_in_index
  pub keys : length t.keys ≤ most_in_index

-- the archive's bytes are refused with this fault
abbrev pub HasCutFault : Mbox → CutFault → Type 0
HasCutFault a fault = archive_refusal most_in_archive a.bytes ≡ Some fault

-- no archive is refused, and all together are within the limits
pub record AreSound (archives : List Mbox) : Type 0 where
  pub each : All (λ a. archive_refusal most_in_archive a.bytes ≡ None) archives
  pub few : IsWithinLimit (table archives)

-- The archives before the last are sound, and the bytes of the last are refused. There is room for one archive more:
-- otherwise the bytes don't count.
pub record IsCutOff (before : List Mbox) (last : Mbox) (fault : CutFault) : Type 0 where
  pub sound : AreSound before
  pub few : length before < most_in_index
  pub refused : HasCutFault last fault

-- The archives before the last are sound, and with the last there is too much.
pub record IsOneTooMany (before : List Mbox) (last : Mbox) : Type 0 where
  pub sound : AreSound before
  pub much : IsTooMuch (table (before ++ last ∷ []))
