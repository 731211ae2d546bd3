-- Records and archives read from the beginning of their sections. For bytes that are in no table's file these
-- definitions may say anything.
use Rattle.std.specs.Prelude.{◌≡◌, ◌-◌, true, ℕ, zero, suc, ◌+◌, ◌<◌, ◌≤◌, Bool, ◌&&◌, ◌||◌, nat_eq, nat_le, nat_lt}
use Rattle.std.specs.Prelude.{cond, ℤ, List, [], ◌∷◌, ◌++◌, take, drop, Option, Some, None, flat_map, bit_and}
use Rattle.std.specs.Int.{w64, cast_signed}
use Rattle.std.specs.List.{AllByRecursion}
use Rattle.mail_words.specs.declared.flags.Flags.{Flags}
use Rattle.mail_index.specs.declared.record.Record.{Record}
use Rattle.mail_index.specs.Fields.{byte_at, u32_at, u64_at, are_zeros_at}
use Rattle.mail_index.specs.Places.{record_size, archive_length_at, path_length_at, path_start, archive_number_at}
use Rattle.mail_index.specs.Places.{flags_at, record_zeros_at, offset_at, length_at, size_at, date_at, seen_flag}
use Rattle.mail_index.specs.Places.{replied_flag, flagged_flag, dated_flag, all_flags}
use Rattle.mail_index.specs.Versions.{read_digest, after_digest}
use Rattle.mail_index.specs.Tables.{Archive, IsArchive}
use Rattle.mail_index.specs.Files.{archive_bytes}

-- ---- records

-- whether the flags have all bits of b
abbrev pub has_bit : ℕ → ℕ → Bool
has_bit flags b = nat_eq (bit_and flags b) b

-- the flags of a message
abbrev pub read_flags : ℕ → Flags
read_flags flags = record {
  seen = has_bit flags seen_flag;
  replied = has_bit flags replied_flag;
  flagged = has_bit flags flagged_flag;
}

-- the date, if the flags say that there is one
abbrev pub read_date : ℕ → ℕ → Option ℤ
read_date flags date = cond (has_bit flags dated_flag) (Some (cast_signed w64 date)) None

-- the record at the front
unfoldable pub read_record : List ℕ → Record
read_record r = record {
  archive = u32_at r archive_number_at;
  offset = u64_at r offset_at;
  length = u64_at r length_at;
  size = u64_at r size_at;
  date = read_date (byte_at r flags_at) (u64_at r date_at);
  flags = read_flags (byte_at r flags_at);
}

-- this many records, one after another
abbrev pub read_records : ℕ → List ℕ → List Record
read_records zero r = []
read_records (suc n) r = read_record r ∷ read_records n (drop record_size r)

-- whether the flags and the zeros after them are those of a record, and the date's bytes are 0 if there is no date
unfoldable pub is_record : List ℕ → Bool
is_record r =
    nat_le (byte_at r flags_at) all_flags && are_zeros_at r record_zeros_at
    && (has_bit (byte_at r flags_at) dated_flag || nat_eq (u64_at r date_at) 0)

-- ---- archives

-- the bytes after the path of the first archive
abbrev pub after_path : List ℕ → List ℕ
after_path r = drop (u32_at r path_length_at) (drop path_start r)

-- the first archive
unfoldable pub read_archive : ℕ → List ℕ → Archive
read_archive version r = record {
  path = take (u32_at r path_length_at) (drop path_start r);
  length = u64_at r archive_length_at;
  digest =
      read_digest version (after_path r);
}

-- the bytes after the first archive
unfoldable pub after_archive : ℕ → List ℕ → List ℕ
after_archive version r = after_digest version (after_path r)

-- this many archives, one after another
abbrev pub read_archives : ℕ → ℕ → List ℕ → List Archive
read_archives version zero r = []
read_archives version (suc n) r = read_archive version r ∷ read_archives version n (after_archive version r)

-- the bytes begin with an archive
pub record HasArchive (version : ℕ) (r : List ℕ) : Type 0 where
  pub spelled : r ≡ archive_bytes (read_archive version r) ++ after_archive version r
  pub valid : IsArchive version (read_archive version r)

-- the bytes consist of exactly this many archives
pub record SpellsArchives (version n : ℕ) (r : List ℕ) : Type 0 where
  pub spelled : r ≡ flat_map archive_bytes (read_archives version n r)
  pub each : AllByRecursion (IsArchive version) (read_archives version n r)

-- the bytes after this many archives
abbrev pub after_archives : ℕ → ℕ → List ℕ → List ℕ
after_archives version zero r = r
after_archives version (suc n) r = after_archives version n (after_archive version r)

-- ---- the records of a section, from where an earlier one ended

-- whether the message is in a later archive, or in this one from the place on
abbrev pub is_after : ℕ → ℕ → Record → Bool
is_after archive place m = nat_lt archive m.archive || (nat_eq archive m.archive && nat_le place m.offset)

-- The record may come next: in the archive of this number from the place on, or in a later one. `rest` is the bytes of
-- the archives from this number on.
pub record IsNextRecord (version count archive place : ℕ) (rest : List ℕ) (m : Record) : Type 0 where
  pub exists : m.archive < count
  pub follows : is_after archive place m ≡ true
  pub within : m.offset + m.length ≤ u64_at (after_archives version (m.archive - archive) rest) archive_length_at
  pub size : m.size < m.length

-- this many records may come from this place on, each after the end of the one before it
abbrev pub AreRecords : ℕ → ℕ → ℕ → ℕ → List ℕ → ℕ → List ℕ → Type 0
AreRecords version count archive place rest zero r = Unit {0}
AreRecords version count archive place rest (suc n) r =
    (is_record r ≡ true) × IsNextRecord version count archive place rest (read_record r)
    × AreRecords version count (read_record r).archive ((read_record r).offset + (read_record r).length)
    (after_archives version ((read_record r).archive - archive) rest) n (drop record_size r)
