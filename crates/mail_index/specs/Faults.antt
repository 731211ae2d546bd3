-- Which bytes are an index file, and what the first fault of other bytes is.
use Rattle.std.specs.Prelude.{◌≡◌, ◌≢◌, ℕ, ◌+◌, ◌-◌, ◌*◌, ◌<◌, ◌≤◌, List, length, take, drop, map, flat_map}
use Rattle.std.specs.Prelude.{slice_range}
use Rattle.std.specs.List.{AllByRecursion}
use Rattle.std.specs.declared.cmp.Ordering.TheVariants.{Less}
use Rattle.sha2.specs.Sha256.{sha256}
use Rattle.mail_index.specs.declared.digests.Digests.{Digests}
use Rattle.mail_index.specs.declared.view.fault.IndexFault.{IndexFault}
use Rattle.mail_index.specs.declared.view.fault.IndexFault.TheVariants.{TooShort, BadMagic, BadVersion, BadDigest}
use Rattle.mail_index.specs.declared.view.fault.IndexFault.TheVariants.{BadLayout}
use Rattle.mail_index.specs.declared.view.fault.Section.TheVariants.{Counts, Archives, Records, Directory, Postings}
use Rattle.mail_index.specs.declared.record.Record.{Record}
use Rattle.mail_index.specs.Kinds.{kind_number}
use Rattle.mail_index.specs.Versions.{IsVersion, last_kind}
use Rattle.mail_index.specs.Fields.{u32_at, u64_at}
use Rattle.mail_index.specs.Tables.{Archive, Key, Table, IsWellFormed, IsArchive, IsMessage, IsKey, Follows, AllNext}
use Rattle.mail_index.specs.Files.{magic, archive_bytes, record_bytes, DirectoryEntry, entry_of_key, directory_from}
use Rattle.mail_index.specs.Files.{texts_of}
use Rattle.mail_index.specs.Files.{postings_of, index_file, file_by}
use Rattle.mail_index.specs.Limits.{four_byte_limit}
use Rattle.mail_index.specs.Places.{magic_size, counts_size, record_size, entry_size, digest_size, least_size}
use Rattle.mail_index.specs.Places.{version_at, archive_count_at, message_count_at, key_count_at, archive_bytes_at}
use Rattle.mail_index.specs.Places.{text_bytes_at, posting_bytes_at}
use Rattle.mail_index.specs.OrderOfKeys.{key_cmp}

-- the key of the first entry comes before that of the second
abbrev pub EntryBefore : DirectoryEntry → DirectoryEntry → Type 0
EntryBefore a b = key_cmp (kind_number a.kind) a.text (kind_number b.kind) b.text ≡ Less

-- the entry has a kind of the version, a text that isn't empty and fits its count, and postings
abbrev pub IsEntry : ℕ → DirectoryEntry → Type 0
IsEntry version e = (kind_number e.kind ≤ last_kind version) × (0 < length e.text) × (length e.text < four_byte_limit)
    × (0 < length e.postings)

module _ (bytes : List ℕ) where
  -- the version that the bytes name
  abbrev pub version_told : ℕ
  version_told = u32_at bytes version_at

  -- ---- where the sections begin, by the lengths in the counts

  -- the offset of the records
  abbrev pub records_start : ℕ
  records_start = counts_size + u64_at bytes archive_bytes_at

  -- the offset of the directory
  abbrev pub directory_start : ℕ
  directory_start = records_start + record_size * u32_at bytes message_count_at

  -- the offset of the texts
  abbrev pub texts_start : ℕ
  texts_start = directory_start + entry_size * u32_at bytes key_count_at

  -- the offset of the postings
  abbrev pub postings_start : ℕ
  postings_start = texts_start + u64_at bytes text_bytes_at

  -- the offset of the digest
  abbrev pub digest_start : ℕ
  digest_start = postings_start + u64_at bytes posting_bytes_at

  -- ---- the rules in their order, each with those before it and with what it finds

  -- the last bytes are the SHA-256 of those before
  abbrev pub HasDigest : Type 0
  HasDigest = drop (length bytes - digest_size) bytes ≡ sha256 (take (length bytes - digest_size) bytes)

  -- the bytes have the length, the magic, a known version and the digest of an index file
  pub record IsSigned : Type 0 where
    pub long : least_size ≤ length bytes
    pub marked : take magic_size bytes ≡ magic
    pub known : IsVersion version_told
    pub digest : HasDigest

  -- the bytes are signed, and the lengths in the counts add up to the length of the file
  abbrev pub HasCounts : Type 0
  HasCounts = IsSigned × (digest_start + digest_size ≡ length bytes)

  -- the counts are right, and the section of archives consists of these archives, and each keeps its rule
  pub record HasArchives (archives : List Archive) : Type 0 where
    pub before : HasCounts
    pub spelled : slice_range bytes counts_size records_start ≡ flat_map archive_bytes archives
    pub counted : length archives ≡ u32_at bytes archive_count_at
    pub each : AllByRecursion (IsArchive version_told) archives

  -- the archives are right, and the section of records consists of these records, each valid, in order
  pub record HasRecords (archives : List Archive) (messages : List Record) : Type 0 where
    pub before : HasArchives archives
    pub spelled : slice_range bytes records_start directory_start ≡ flat_map record_bytes messages
    pub each : AllByRecursion (IsMessage archives) messages
    pub in_order : AllNext Follows messages

  -- the records are right, and directory, texts and postings are those of these entries, each valid, in order
  pub record HasDirectory (archives : List Archive) (messages : List Record) (es : List DirectoryEntry) : Type 0 where
    pub before : HasRecords archives messages
    pub spelled : slice_range bytes directory_start texts_start ≡ directory_from 0 0 es
    pub texts : slice_range bytes texts_start postings_start ≡ texts_of es
    pub postings : slice_range bytes postings_start digest_start ≡ postings_of es
    pub each : AllByRecursion (IsEntry version_told) es
    pub sorted : AllNext EntryBefore es

  -- the directory is right, and the postings of its entries are the rising numbers of these keys
  pub record HasPostings (archives : List Archive) (messages : List Record) (keys : List Key) : Type 0 where
    pub before : HasDirectory archives messages (map entry_of_key keys)
    pub each : AllByRecursion (IsKey version_told (length messages)) keys

  -- the bytes are the file of the table
  abbrev pub IsFileOfTable : Table → Type 0
  IsFileOfTable t = IsWellFormed t × (bytes ≡ index_file t)

  -- the bytes are the file of the table, with its digest or without
  abbrev pub IsFileBy : Digests → Table → Type 0
  IsFileBy digests t = IsWellFormed t × (bytes ≡ file_by digests t)

  -- the fault is that of the first broken rule
  abbrev pub IsFirstFaultOfFile : IndexFault → Type 0
  IsFirstFaultOfFile TooShort = length bytes < least_size
  IsFirstFaultOfFile BadMagic = (least_size ≤ length bytes) × (take magic_size bytes ≢ magic)
  IsFirstFaultOfFile BadVersion = (least_size ≤ length bytes) × (take magic_size bytes ≡ magic)
      × (¬ IsVersion version_told)
  IsFirstFaultOfFile BadDigest = (least_size ≤ length bytes) × (take magic_size bytes ≡ magic) × IsVersion version_told
      × ¬ HasDigest
  IsFirstFaultOfFile (BadLayout Counts) = IsSigned × ¬ (digest_start + digest_size ≡ length bytes)
  IsFirstFaultOfFile (BadLayout Archives) = HasCounts × ((archives : List Archive) → ¬ HasArchives archives)
  IsFirstFaultOfFile (BadLayout Records) = (archives : List Archive) × HasArchives archives
      × ((ms : List Record) → ¬ HasRecords archives ms)
  IsFirstFaultOfFile (BadLayout Directory) = (archives : List Archive) × (ms : List Record) × HasRecords archives ms
      × ((es : List DirectoryEntry) → ¬ HasDirectory archives ms es)
  IsFirstFaultOfFile (BadLayout Postings) = (archives : List Archive) × (ms : List Record) × (es : List DirectoryEntry)
      × HasDirectory archives ms es × ((ks : List Key) → ¬ HasPostings archives ms ks)
