-- The sections of a file as slices, and the table that they give.
use Rattle.std.specs.Prelude.{◌≡◌, ℕ, ◌+◌, ◌*◌, ◌^◌, ◌<◌, List, [], length, slice_range}
use Rattle.mail_index.specs.declared.view.archive.Archive.{Archive}
use Rattle.mail_index.specs.declared.view.layout.Layout.{Layout}
use Rattle.mail_index.specs.Fields.{u32_at}
use Rattle.mail_index.specs.Versions.{version_number}
use Rattle.mail_index.specs.Tables.{Key, Table, IsWellFormed}
use Rattle.mail_index.specs.Tables as table
use Rattle.mail_index.specs.Faults.{version_told, records_start, directory_start, texts_start, postings_start}
use Rattle.mail_index.specs.Faults.{digest_start}
use Rattle.mail_index.specs.Records.{SpellsArchives, AreRecords, read_archives, read_records}
use Rattle.mail_index.specs.Directory.{AreEntries}
use Rattle.mail_index.specs.Lists.{AreLists}
use Rattle.mail_index.specs.KeysRead.{keys_read}
use Rattle.mail_index.specs.Limits.{four_byte_limit}
use Rattle.mail_index.specs.Places.{counts_size, record_size, entry_size, digest_size, archive_count_at}
use Rattle.mail_index.specs.Places.{message_count_at, key_count_at}

-- the layout divides these bytes as their counts say
pub record IsLayout (bytes : List ℕ) (l : Layout) : Type 0 where
  pub adds_up : digest_start bytes + digest_size ≡ length bytes
  pub few : length bytes < 2 ^ 64
  pub version : version_number l.version ≡ version_told bytes
  pub archive_count : l.archive_count ≡ u32_at bytes archive_count_at
  pub few_messages : l.message_count < four_byte_limit
  pub message_count : l.message_count ≡ u32_at bytes message_count_at
  pub key_count : l.key_count ≡ u32_at bytes key_count_at
  pub archives : l.archives.now ≡ slice_range bytes counts_size (records_start bytes)
  pub records : l.records.now ≡ slice_range bytes (records_start bytes) (directory_start bytes)
  pub directory : l.directory.now ≡ slice_range bytes (directory_start bytes) (texts_start bytes)
  pub texts : l.texts.now ≡ slice_range bytes (texts_start bytes) (postings_start bytes)
  pub postings : l.postings.now ≡ slice_range bytes (postings_start bytes) (digest_start bytes)

-- the table that the sections give
abbrev pub table_of : Layout → Table
table_of l = record {
  version = version_number l.version;
  archives = read_archives (version_number l.version) l.archive_count l.archives.now;
  messages = read_records l.message_count l.records.now;
  keys = keys_read l.texts.now l.postings.now l.key_count l.directory.now;
}

-- the archive of a view, as a table has it
abbrev pub archive_of : Archive → table.Archive
archive_of a = record { path = a.path.now; length = a.length; digest = a.digest }

-- the sections were checked, from the first to the last, and keep their rules
pub record IsChecked (l : Layout) : Type 0 where
  pub archives : SpellsArchives (version_number l.version) l.archive_count l.archives.now
  pub record_bytes : length l.records.now ≡ record_size * l.message_count
  pub records : AreRecords (version_number l.version) l.archive_count 0 0 l.archives.now l.message_count l.records.now
  pub directory_bytes : length l.directory.now ≡ entry_size * l.key_count
  pub entries : AreEntries (version_number l.version) l.texts.now (length l.postings.now) 0 0 0 [] l.key_count
      l.directory.now
  pub few_messages : l.message_count < four_byte_limit
  pub lists : AreLists l.message_count l.postings.now l.key_count l.directory.now
  pub formed : IsWellFormed (table_of l)
