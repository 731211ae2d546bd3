-- The states of the walks over the records and over the directory.
use Rattle.std.specs.Prelude.{◌≡◌, ℕ, ◌+◌, ◌-◌, List, drop}
use Rattle.mail_index.specs.declared.record.Record.{Record}
use Rattle.mail_index.specs.declared.view.record_walk.RecordPlace.{RecordPlace}
use Rattle.mail_index.specs.declared.view.directory_walk.EntryPlace.{EntryPlace}
use Rattle.mail_index.specs.Fields.{byte_at, u32_at}
use Rattle.mail_index.specs.Places.{entry_size, kind_at, text_length_at}
use Rattle.mail_index.specs.Directory.{end_before, text_at, IsEntryAt}
use Rattle.mail_index.specs.Records.{IsNextRecord, SpellsArchives, after_archives}

-- the message may come next at this place
abbrev pub MayFollow : ℕ → ℕ → RecordPlace → Record → Type 0
MayFollow version count p m = IsNextRecord version count p.archive p.offset p.archives.now m

-- q is the place after this message
abbrev pub IsAfterMessage : ℕ → ℕ → RecordPlace → Record → RecordPlace → Type 0
IsAfterMessage version count p m q =
    (q.archive ≡ m.archive) × (q.offset ≡ m.offset + m.length)
    × (q.archives.now ≡ after_archives version (m.archive - p.archive) p.archives.now)
    × SpellsArchives version (count - q.archive) q.archives.now

-- the first entry of the directory may come at this place
abbrev pub MayStandAt : ℕ → List ℕ → ℕ → EntryPlace → List ℕ → Type 0
MayStandAt version texts total p d = IsEntryAt version texts total p.text_place p.place p.number p.text.now d

-- q is the place after this entry
abbrev pub IsAfterEntry : List ℕ → ℕ → EntryPlace → List ℕ → EntryPlace → Type 0
IsAfterEntry texts total p d q =
    (q.text_place ≡ p.text_place + u32_at d text_length_at) × (q.place ≡ end_before (drop entry_size d) total)
    × (q.number ≡ byte_at d kind_at) × (q.text.now ≡ text_at texts d)
