-- What is written of each key in the sections about keys.
use Rattle.std.specs.Prelude.{ℕ, List}
use Rattle.mail_index.specs.declared.build.key_sections.KeyPart.{KeyPart}
use Rattle.mail_index.specs.declared.build.key_sections.KeyPart.TheVariants.{Entry as InEntry, Text as InText}
use Rattle.mail_index.specs.declared.build.key_sections.KeyPart.TheVariants.{Postings as InPostings}
use Rattle.mail_index.specs.Files.{DirectoryEntry, entry_bytes, directory_from, texts_of, postings_of}

-- the part of one key, whose text and postings have these places
abbrev pub key_part : KeyPart → ℕ → ℕ → DirectoryEntry → List ℕ
key_part InEntry text_place place e = entry_bytes text_place place e
key_part InText text_place place e = e.text
key_part InPostings text_place place e = e.postings

-- the part of all keys, if the first has these places
abbrev pub keys_from : KeyPart → ℕ → ℕ → List DirectoryEntry → List ℕ
keys_from InEntry text_place place es = directory_from text_place place es
keys_from InText text_place place es = texts_of es
keys_from InPostings text_place place es = postings_of es
