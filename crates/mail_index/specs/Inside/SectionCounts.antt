-- The sections of an index file, and the counts that begin it.
use Rattle.std.specs.List.{concat}
use Rattle.std.specs.Prelude.{◌≡◌, ℕ, ◌+◌, ◌*◌, List, [], ◌∷◌, length, flat_map}
use Rattle.mail_index.specs.declared.build.sections.Counts.{Counts}
use Rattle.mail_index.specs.Tables.{Table}
use Rattle.mail_index.specs.Places.{record_size, entry_size, least_size}
use Rattle.mail_index.specs.Versions.{newest}
use Rattle.mail_index.specs.declared.build.sections.FileSection.{FileSection}
use Rattle.mail_index.specs.declared.build.sections.FileSection.TheVariants.{Counts as CountSection, Archives, Records}
use Rattle.mail_index.specs.declared.build.sections.FileSection.TheVariants.{Keys}
use Rattle.mail_index.specs.Files.{magic, be32, be64, archive_section, record_bytes, texts_of, postings_of, entries}
use Rattle.mail_index.specs.Files.{counts}
use Rattle.mail_index.specs.Inside.KeyParts.{keys_from}

-- the counts as fields of the file
abbrev pub count_fields : Counts → List (List ℕ)
count_fields c =
    magic ∷ be32 newest ∷ be32 c.archives ∷ be32 c.messages ∷ be32 c.keys ∷ be64 c.archive_bytes ∷ be64 c.text_bytes ∷
    be64 c.posting_bytes ∷ []

-- these are the counts of the table
pub record IsCountOf (t : Table) (c : Counts) : Type 0 where
  pub version : t.version ≡ newest
  pub archives : c.archives ≡ length t.archives
  pub messages : c.messages ≡ length t.messages
  pub keys : c.keys ≡ length t.keys
  pub archive_bytes : c.archive_bytes ≡ length (archive_section t)
  pub text_bytes : c.text_bytes ≡ length (texts_of (entries t))
  pub posting_bytes : c.posting_bytes ≡ length (postings_of (entries t))

-- the length of a file with these counts
abbrev pub counted_length : Counts → ℕ
counted_length c = least_size + c.archive_bytes + record_size * c.messages + entry_size * c.keys + c.text_bytes
    + c.posting_bytes

-- the bytes of a section
abbrev pub section_of : Table → FileSection → List ℕ
section_of t CountSection = concat (counts t)
section_of t Archives = archive_section t
section_of t Records = flat_map record_bytes t.messages
section_of t (Keys part) = keys_from part 0 0 (entries t)
