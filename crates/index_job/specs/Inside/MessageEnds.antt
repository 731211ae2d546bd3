-- What the end of a message changes in a draft.
use Rattle.mail_index.specs.declared.record.Record.{Record}
use Rattle.mail_index.specs.Builders.{Draft, draft_after_message}
use Rattle.mime_text.specs.declared.header.facts.Facts.{Facts}
use Rattle.index_job.specs.declared.message_end.Span.{Span}
use Rattle.index_job.specs.ArchiveTables.{date_in_field}
use Rattle.index_job.specs.Indexing.{draft_with_terms}
use Rattle.index_job.specs.MessageTerms.{id_terms}

-- the record of a message at this place, given what its own header says
abbrev pub ended_record : Span → Facts → Record
ended_record span facts = record {
  archive = span.archive;
  offset = span.offset;
  length = span.length;
  size = span.size;
  date = date_in_field facts.date_text;
  flags = facts.flags;
}

-- the draft with the ids of its open message added, and the message ended
abbrev pub ended_with : Facts → Span → Draft → Draft
ended_with facts span d = draft_after_message (ended_record span facts) (draft_with_terms (id_terms facts) d)
