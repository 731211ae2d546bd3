-- The table of archives, which is what an index of them says.
use Rattle.std.specs.Prelude.{ℕ, suc, ℤ, List, [], ◌∷◌, ◌++◌, length, map, flat_map, Option, Some, None, unwrap_or}
use Rattle.sha2.specs.Sha256.{sha256}
use Rattle.header_text.specs.Headers.{fields_of}
use Rattle.mail_dates.specs.HeaderDates.{date_of}
use Rattle.mail_index.specs.declared.digests.Digests.{Digests}
use Rattle.mail_index.specs.declared.record.Record.{Record}
use Rattle.mail_index.specs.Builders.{with_pair}
use Rattle.mail_index.specs.Files.{digest_or_zeros}
use Rattle.mail_index.specs.Versions.{newest}
use Rattle.mail_index.specs.Tables.{Archive, Key, Table}
use Rattle.mbox_cutter.specs.Archives.{Message, messages, text, size, span_length}
use Rattle.mime_text.specs.declared.header.facts.Facts.{Facts}
use Rattle.mime_text.specs.MessageFacts.{facts_of}
use Rattle.index_job.specs.MessageTerms.{Term, message_terms}

-- an archive: its path and its bytes
pub record Mbox : Type 0 where
  pub path : List ℕ
  pub bytes : List ℕ

-- the messages in an archive's bytes, in order; none if the bytes aren't an mbox
abbrev pub messages_in : List ℕ → List Message
messages_in bytes = unwrap_or (messages bytes) []

-- the messages of all archives, by archive, then offset
abbrev pub all_messages : List Mbox → List Message
all_messages archives = flat_map (λ a. messages_in a.bytes) archives

-- ---- records

-- the second that a Date field names; None if there is no such field, or if it can't be read
abbrev pub date_in_field : Option (List ℕ) → Option ℤ
date_in_field None = None
date_in_field (Some value) = date_of value

-- the record of a message in the archive with this number, given what its own header says
abbrev pub record_by : ℕ → Message → Facts → Record
record_by archive m facts = record {
  archive = archive;
  offset = m.offset;
  length = span_length m;
  size = size m;
  date = date_in_field facts.date_text;
  flags = facts.flags;
}

-- the record of a message in the archive with this number
abbrev pub record_of : ℕ → Message → Record
record_of archive m = record_by archive m (facts_of (fields_of (text m)))

-- the records of all messages, if the first archive has the number n
abbrev pub records_from : ℕ → List Mbox → List Record
records_from n [] = []
records_from n (a ∷ archives) = map (record_of n) (messages_in a.bytes) ++ records_from (suc n) archives

-- ---- keys

-- the keys with n among the numbers of each of these terms
abbrev pub with_terms : ℕ → List Term → List Key → List Key
with_terms n [] ks = ks
with_terms n (t ∷ ts) ks = with_terms n ts (with_pair t.0 t.1 n ks)

-- the keys with the terms of these messages, of which the first has the number n
abbrev pub with_messages : ℕ → List Message → List Key → List Key
with_messages n [] ks = ks
with_messages n (m ∷ ms) ks = with_messages (suc n) ms (with_terms n (message_terms (text m)) ks)

-- ---- tables

-- the entry of an archive in the table: its path, its length and its digest
abbrev pub entry_of_archive : Mbox → Archive
entry_of_archive a = record { path = a.path; length = length a.bytes; digest = Some (sha256 a.bytes) }

-- the archives; a record for each message; and each term of a message, with the numbers of all messages that have it
abbrev pub table : List Mbox → Table
table archives = record {
  version = newest;
  archives = map entry_of_archive archives;
  messages = records_from 0 archives;
  keys = with_messages 0 (all_messages archives) [];
}

-- ---- tables without digests

-- the entry of an archive, with its digest or with zeros in its place
abbrev pub entry_by : Digests → Mbox → Archive
entry_by digests a = record (entry_of_archive a) { digest = Some (digest_or_zeros digests a.bytes) }

-- the table of archives, with their digests or without
abbrev pub table_by : Digests → List Mbox → Table
table_by digests archives = record (table archives) { archives = map (entry_by digests) archives }
