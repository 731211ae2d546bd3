-- The file of a table: counts, archives, records, directory, texts, postings, and the SHA-256 of all these. The fields
-- of each part have the order of their offsets in Places.
use Rattle.std.specs.Prelude.{ℕ, ◌+◌, ◌^◌, ◌<◌, Bool, if◌then◌else◌, ℤ, List, [], ◌∷◌, ◌++◌, length, map, Option, Some}
use Rattle.std.specs.Prelude.{None, flat_map, is_some, unwrap_or}
use Rattle.std.specs.Prelude.{replicate}
use Rattle.std.specs.Int.{w32, w64, to_be_bytes, cast_unsigned}
use Rattle.std.specs.List.{concat}
use Rattle.sha2.specs.Sha256.{sha256}
use Rattle.mail_index.specs.declared.digests.Digests.{Digests}
use Rattle.mail_index.specs.declared.digests.Digests.TheVariants.{Computed, LeftOut}
use Rattle.mail_index.specs.declared.kind.Kind.{Kind}
use Rattle.mail_index.specs.declared.record.Record.{Record}
use Rattle.mail_index.specs.Kinds.{kind_number}
use Rattle.mail_index.specs.Tables.{Archive, Key, Table}
use Rattle.mail_index.specs.Postings.{postings}
use Rattle.mail_index.specs.Places.{seen_flag, replied_flag, flagged_flag, dated_flag, digest_size}

-- "MAIRIX" and a line's end
abbrev pub magic : List ℕ
magic = 0x4D ∷ 0x41 ∷ 0x49 ∷ 0x52 ∷ 0x49 ∷ 0x58 ∷ 0x0D ∷ 0x0A ∷ []

-- the four bytes of a number
abbrev pub be32 : ℕ → List ℕ
be32 n = to_be_bytes w32 n

-- the eight bytes of a number
abbrev pub be64 : ℕ → List ℕ
be64 n = to_be_bytes w64 n

-- three zeros
abbrev pub zeros : List ℕ
zeros = 0 ∷ 0 ∷ 0 ∷ []

-- the bytes of an archive
abbrev pub archive_bytes : Archive → List ℕ
archive_bytes a = concat (be64 a.length ∷ be32 (length a.path) ∷ a.path ∷ unwrap_or a.digest [] ∷ [])

-- the value of a flag: n if it is set, 0 if it isn't
abbrev pub bit : ℕ → Bool → ℕ
bit n b = if b then n else 0

-- the flags of a message
abbrev pub flags_byte : Record → ℕ
flags_byte m = bit seen_flag m.flags.seen + bit replied_flag m.flags.replied + bit flagged_flag m.flags.flagged
    + bit dated_flag (is_some m.date)

-- the date in two's complement, and 0 without a date
abbrev pub date_number : Option ℤ → ℕ
date_number None = 0
date_number (Some z) = cast_unsigned w64 z

-- the bytes of a record
abbrev pub record_bytes : Record → List ℕ
record_bytes m = concat (be32 m.archive ∷ (flags_byte m ∷ zeros) ∷ be64 m.offset ∷ be64 m.length ∷ be64 m.size ∷ be64
    (date_number m.date) ∷ [])

-- a key with the bytes of its numbers
pub record DirectoryEntry : Type 0 where
  pub kind : Kind
  pub text : List ℕ
  pub postings : List ℕ

-- the entry of a key
abbrev pub entry_of_key : Key → DirectoryEntry
entry_of_key k = record { kind = k.kind; text = k.text; postings = postings k.numbers }

-- the bytes of an entry, with the places of its text and of its postings
abbrev pub entry_bytes : ℕ → ℕ → DirectoryEntry → List ℕ
entry_bytes text_place place e = concat ((kind_number e.kind ∷ zeros) ∷ be32 (length e.text) ∷ be64 text_place ∷ be64
    place ∷ [])

-- the bytes of the directory, if the text and the postings of the first entry begin at these places
abbrev pub directory_from : ℕ → ℕ → List DirectoryEntry → List ℕ
directory_from text_place place [] = []
directory_from text_place place (e ∷ es) =
    entry_bytes text_place place e ++ directory_from (text_place + length e.text) (place + length e.postings) es

-- the texts of the entries, one after another
abbrev pub texts_of : List DirectoryEntry → List ℕ
texts_of = flat_map (λ e. e.text)

-- the postings of the entries, one after another
abbrev pub postings_of : List DirectoryEntry → List ℕ
postings_of = flat_map (λ e. e.postings)

-- the entries of a table's keys, in order
abbrev pub entries : Table → List DirectoryEntry
entries t = map entry_of_key t.keys

-- the bytes of all archives
abbrev pub archive_section : Table → List ℕ
archive_section t = flat_map archive_bytes t.archives

-- the fields at the front of the file
abbrev pub counts : Table → List (List ℕ)
counts t =
    magic ∷ be32 t.version ∷ be32 (length t.archives) ∷ be32 (length t.messages) ∷ be32 (length t.keys)
    ∷ be64 (length (archive_section t)) ∷ be64 (length (texts_of (entries t))) ∷ be64 (length (postings_of (entries t)))
    ∷ []

-- the six sections of the file, in order
abbrev pub sections : Table → List (List ℕ)
sections t =
    concat (counts t) ∷ archive_section t ∷ flat_map record_bytes t.messages
    ∷ directory_from 0 0 (entries t) ∷ texts_of (entries t) ∷ postings_of (entries t) ∷ []

-- the bytes of the file before its digest
abbrev pub body : Table → List ℕ
body t = concat (sections t)

-- the file of the table
unfoldable pub index_file : Table → List ℕ
index_file t = body t ++ sha256 (body t)

-- zeros, in the place of a digest that isn't computed
abbrev pub no_digest : List ℕ
no_digest = replicate digest_size 0

-- the digest of these bytes, or zeros in its place
abbrev pub digest_or_zeros : Digests → List ℕ → List ℕ
digest_or_zeros Computed bytes = sha256 bytes
digest_or_zeros LeftOut bytes = no_digest

-- the file of the table, but with zeros in the place of its digest
unfoldable pub undigested_file : Table → List ℕ
undigested_file t = body t ++ no_digest

-- the file of the table, with its digest or without
abbrev pub file_by : Digests → Table → List ℕ
file_by Computed t = index_file t
file_by LeftOut t = undigested_file t

-- the length of each section fits its count
pub record HasSmallSections (t : Table) : Type 0 where
  pub archives : length (archive_section t) < 2 ^ 64
  pub texts : length (texts_of (entries t)) < 2 ^ 64
  pub postings : length (postings_of (entries t)) < 2 ^ 64
