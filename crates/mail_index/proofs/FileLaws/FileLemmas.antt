-- What each walk over a file finds is what the file has, and what a walk refuses is in no file.
use Rattle.mail_index.proofs.Words.{◌≡◌, ℕ, ◌-◌, ◌*◌, ◌^◌, ◌<◌, ◌≤◌, List, length, refl, ap, ◌∙◌, arith, length-drop, slice_range, Record, version_number, Archive, records_start, directory_start, texts_start, HasCounts, HasArchives, HasRecords, read_archives, SpellsArchives, AreRecords, read_records, IsLayout}
use Rattle.mail_index.specs.declared.view.layout.Layout.{Layout}
use Rattle.mail_index.proofs.FileLaws.Bytes.{AreBytes, bytes_after, bytes_before, length_part}
use Rattle.mail_index.proofs.ViewLaws.ArchiveReads.{read_count}
use Rattle.mail_index.proofs.ViewLaws.RecordSections.{shows_records, are_records_of, are_records_after, in_order}
use Rattle.mail_index.proofs.ViewLaws.Opening.{spells_these, length_records}

-- what is known of a file and its layout
pub record IsLaidOut (bytes : List ℕ) (l : Layout) : Type 0 where
  pub counts : HasCounts bytes
  pub layout : IsLayout bytes l
  pub are_bytes : AreBytes bytes
  pub few : length bytes < 2 ^ 64
  pub few_archives : l.archive_count < 2 ^ 32
  pub few_messages : l.message_count < 2 ^ 32
  pub few_keys : l.key_count < 2 ^ 32

pub section_length : (i j : ℕ) (xs : List ℕ) → i ≤ j → j ≤ length xs → length (slice_range xs i j) ≡ j - i
section_length i j xs l m = length_part _ _ (omega (arith, l, m, length-drop i xs))

pub section_bytes : (i j : ℕ) (xs ys : List ℕ) → ys ≡ slice_range xs i j → AreBytes xs → AreBytes ys
section_bytes i j xs _ e b = rw e (bytes_before _ _ (bytes_after i _ b))

pub has_archives : (bytes : List ℕ) (l : Layout) → IsLaidOut bytes l
    → SpellsArchives (version_number l.version) l.archive_count l.archives.now
    → HasArchives bytes (read_archives (version_number l.version) l.archive_count l.archives.now)
has_archives _ l f h = grind (arith, read_count)

pub these_archives : (bytes : List ℕ) (l : Layout) → IsLaidOut bytes l → (archives : List Archive)
    → HasArchives bytes archives
    → (read_archives (version_number l.version) l.archive_count l.archives.now ≡ archives)
    × SpellsArchives (version_number l.version) l.archive_count l.archives.now
these_archives _ l f _ h = grind (arith, spells_these, version_number)

pub record_section : (bytes : List ℕ) (l : Layout) → IsLaidOut bytes l → length l.records.now ≡ 40 * l.message_count
record_section _ l f = grind (arith, section_length, records_start, directory_start)

pub directory_section : (bytes : List ℕ) (l : Layout) → IsLaidOut bytes l → length l.directory.now ≡ 24 * l.key_count
directory_section _ l f = grind (arith, section_length, directory_start, texts_start)

pub has_records : (bytes : List ℕ) (l : Layout) → IsLaidOut bytes l
    → SpellsArchives (version_number l.version) l.archive_count l.archives.now
    → AreRecords (version_number l.version) l.archive_count 0 0 l.archives.now l.message_count l.records.now
    → HasRecords bytes (read_archives (version_number l.version) l.archive_count l.archives.now)
    (read_records l.message_count l.records.now)
has_records bytes l f a h =
    let s = shows_records _ _ l.archives.now 0 0 _ _ _ refl (section_bytes _ _ _ _ f.layout.records f.are_bytes)
    (record_section _ l f) h in
    grind (arith, has_archives, in_order)

-- only the records that are read can be those of the section
pub these_records : (bytes : List ℕ) (l : Layout) → IsLaidOut bytes l
    → SpellsArchives (version_number l.version) l.archive_count l.archives.now
    → (ms : List Record) → HasRecords bytes (read_archives (version_number l.version) l.archive_count l.archives.now) ms
    → AreRecords (version_number l.version) l.archive_count 0 0 l.archives.now l.message_count l.records.now
these_records bytes l f a ms h =
    let e = f.layout.records ∙ h.spelled in
    let n : length ms ≡ l.message_count = omega (arith, ap length e, length_records, record_section) in
    let r = are_records_of _ _ _ 0 0 l.archives.now _ f.few_archives a.each refl h.each (are_records_after _ h.in_order)
    in
    grind (arith, version_number)
