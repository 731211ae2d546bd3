-- The keys of a file, read in place.
use Rattle.std.specs.Prelude.{◌≡◌, ℕ, ◌*◌, ◌≤◌, List, [], length, map}
use Rattle.std.specs.List.{slice_index_or}
use Rattle.mail_index.specs.declared.kind.Kind.TheVariants.{OwnId}
use Rattle.mail_index.specs.Tables.{Key}
use Rattle.mail_index.specs.Files.{DirectoryEntry}
use Rattle.mail_index.specs.PostingReads.{numbers_read}
use Rattle.mail_index.specs.Directory.{read_entries, AreEntries}
use Rattle.mail_index.specs.Lists.{AreLists}
use Rattle.mail_index.specs.Limits.{four_byte_limit}
use Rattle.mail_index.specs.Places.{entry_size}

-- the key of an entry, with its postings read
abbrev pub key_of : DirectoryEntry → Key
key_of e = record { kind = e.kind; text = e.text; numbers = numbers_read 0 e.postings }

-- the keys of this many entries, with their texts and postings
abbrev pub keys_read : List ℕ → List ℕ → ℕ → List ℕ → List Key
keys_read texts postings count entries = map key_of (read_entries texts postings count entries)

-- The entries are in the order of their keys, each with its own text and with postings of messages. Version and number
-- of messages may be any.
pub record IsDirectory (texts postings : List ℕ) (count : ℕ) (entries : List ℕ) : Type 0 where
  pub long : length entries ≡ entry_size * count
  pub version : ℕ
  pub sorted : AreEntries version texts (length postings) 0 0 0 [] count entries
  pub messages : ℕ
  pub few : messages ≤ four_byte_limit
  pub lists : AreLists messages postings count entries

-- any key, for a place where there is none
abbrev pub no_key : Key
no_key = record { kind = OwnId; text = []; numbers = [] }

-- the key of this number, or any key after the last
abbrev pub key_at : List Key → ℕ → Key
key_at keys number = slice_index_or keys number no_key
