-- The numbers of the index format: the offset of each field in its part, the size of each part in bytes, and the flags.
-- docs/INDEX-FORMAT.md has the same names. Numbers in a file have the highest byte first.
use Rattle.std.specs.Prelude.{ℕ}

-- ---- the sizes of parts

-- the magic
abbrev pub magic_size : ℕ
magic_size = 8

-- the counts of a file, with the magic and the version before them
abbrev pub counts_size : ℕ
counts_size = 48

-- a record
abbrev pub record_size : ℕ
record_size = 40

-- an entry of the directory
abbrev pub entry_size : ℕ
entry_size = 24

-- a digest, of an archive or of the file
abbrev pub digest_size : ℕ
digest_size = 32

-- the smallest file: the counts and the digest
abbrev pub least_size : ℕ
least_size = 80

-- ---- the offsets of the counts

-- the version, of four bytes
abbrev pub version_at : ℕ
version_at = 8

-- the number of archives, of four bytes
abbrev pub archive_count_at : ℕ
archive_count_at = 12

-- the number of messages, of four bytes
abbrev pub message_count_at : ℕ
message_count_at = 16

-- the number of keys, of four bytes
abbrev pub key_count_at : ℕ
key_count_at = 20

-- how many bytes the archives have, of eight bytes
abbrev pub archive_bytes_at : ℕ
archive_bytes_at = 24

-- how many bytes the texts have, of eight bytes
abbrev pub text_bytes_at : ℕ
text_bytes_at = 32

-- how many bytes the postings have, of eight bytes
abbrev pub posting_bytes_at : ℕ
posting_bytes_at = 40

-- ---- the offsets in an archive

-- its length, of eight bytes
abbrev pub archive_length_at : ℕ
archive_length_at = 0

-- the length of its path, of four bytes
abbrev pub path_length_at : ℕ
path_length_at = 8

-- its path, and after the path its digest
abbrev pub path_start : ℕ
path_start = 12

-- ---- the offsets in a record

-- the number of its archive, of four bytes
abbrev pub archive_number_at : ℕ
archive_number_at = 0

-- its flags, of one byte
abbrev pub flags_at : ℕ
flags_at = 4

-- three zeros
abbrev pub record_zeros_at : ℕ
record_zeros_at = 5

-- where the message begins in its archive, of eight bytes
abbrev pub offset_at : ℕ
offset_at = 8

-- its length, of eight bytes
abbrev pub length_at : ℕ
length_at = 16

-- the length of its text, of eight bytes
abbrev pub size_at : ℕ
size_at = 24

-- its date, of eight bytes
abbrev pub date_at : ℕ
date_at = 32

-- ---- the flags of a message, which add up

-- it was seen
abbrev pub seen_flag : ℕ
seen_flag = 1

-- it was replied to
abbrev pub replied_flag : ℕ
replied_flag = 2

-- it is flagged
abbrev pub flagged_flag : ℕ
flagged_flag = 4

-- it has a date
abbrev pub dated_flag : ℕ
dated_flag = 8

-- all of them
abbrev pub all_flags : ℕ
all_flags = 15

-- ---- the offsets in an entry of the directory

-- the number of the kind of its key, of one byte
abbrev pub kind_at : ℕ
kind_at = 0

-- three zeros
abbrev pub entry_zeros_at : ℕ
entry_zeros_at = 1

-- the length of its text, of four bytes
abbrev pub text_length_at : ℕ
text_length_at = 4

-- where its text begins in the texts, of eight bytes
abbrev pub text_place_at : ℕ
text_place_at = 8

-- where its postings begin in the postings, of eight bytes
abbrev pub posting_place_at : ℕ
posting_place_at = 16
