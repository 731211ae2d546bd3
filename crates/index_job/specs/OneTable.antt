-- The table of archives as one list of conditions, independent of how it is made.
use Rattle.std.specs.Prelude.{◌≡◌, ℕ, ◌<◌, List, length, map, filter}
use Rattle.std.specs.List.{AllByRecursion, enumerate_from}
use Rattle.mail_index.specs.declared.kind.Kind.{Kind}
use Rattle.mail_index.specs.LookUps.{numbers_at}
use Rattle.mail_index.specs.Tables.{AllNext, KeyBefore, Table}
use Rattle.mail_index.specs.Versions.{newest}
use Rattle.mbox_cutter.specs.Archives.{Message, text}
use Rattle.index_job.specs.ArchiveTables.{Mbox, all_messages, entry_of_archive, records_from}
use Rattle.index_job.specs.MessageTerms.{has_term, message_terms}

-- the rising list of the numbers of the messages that have this term
abbrev pub numbers_with : Kind → List ℕ → List Message → List ℕ
numbers_with kind term ms = map (λ m. m.0)
    (filter (λ m. has_term kind term (message_terms (text m.1))) (enumerate_from 0 ms))

-- The table names the archives in order. It has a record of each message, by archive, then offset. Its keys are the
-- sorted list of all terms of messages, each with the rising list of the numbers of all messages that have it.
pub record IsTableOf (archives : List Mbox) (t : Table) : Type 0 where
  pub version : t.version ≡ newest
  pub named : t.archives ≡ map entry_of_archive archives
  pub records : t.messages ≡ records_from 0 archives
  pub sorted : AllNext KeyBefore t.keys
  pub some_number : AllByRecursion (λ k. 0 < length k.numbers) t.keys
  pub numbers : (kind : Kind) (term : List ℕ) → numbers_at kind term t.keys
      ≡ numbers_with kind term (all_messages archives)
