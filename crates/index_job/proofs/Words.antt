-- The names of std and of the definitions that proofs use, all from one place.
pub use Rattle.contract_words.specs.Knowledge.{still_known}
pub use Rattle.header_text.specs.Headers.{HeaderField, continued_and_fields, field_of_line, header, lines_before_empty, lines_within, most_in_header, with_continuations}
unfoldable pub use Rattle.header_text.specs.Headers.{fields_of}
pub use Rattle.index_job.specs.ArchiveRefusals.{AreSound, IsTooMuch}
pub use Rattle.index_job.specs.ArchiveTables.{Mbox, all_messages, date_in_field, entry_of_archive, messages_in, record_of, records_from, table, with_messages, with_terms}
pub use Rattle.index_job.specs.IndexJobs.{IsAddFault, IsAdded}
pub use Rattle.index_job.specs.Indexing.{HasTooMany, IsArchiveFault, IsIdle, IsJobFault, IsOpenAt, IsReadyForMessage, IsFaultOfAdding, RefusesTerms, draft_of_archives, draft_with_messages, draft_with_terms}
pub use Rattle.index_job.specs.Inside.ArchiveReading.{AddsMessage, AddsMessages, Awaited, HasDone, HasReadAll, Heads, IsInsideMessage, IsMessageFault, IsReading, IsReadingSome, coming_ahead, coming_between, coming_inside}
pub use Rattle.index_job.specs.Inside.FoldedWords.{HoldsWords, parts_of_lengths}
pub use Rattle.index_job.specs.Inside.Gathering.{HasGathered, IsGatherFault, with_texts}
pub use Rattle.index_job.specs.Inside.MessageEnds.{ended_with}
pub use Rattle.index_job.specs.Inside.WaitingLines.{with_waiting}
pub use Rattle.index_job.specs.JobFaults.{is_source_failure, of_text}
pub use Rattle.index_job.specs.MessageTerms.{HasTermLength, Term, id_terms, link_terms, message_terms, own_id_terms, text_terms, word_terms}
pub use Rattle.index_job.specs.declared.archive_reading.Ended.{Ended}
pub use Rattle.index_job.specs.declared.archive_reading.ReadArchive.{ReadArchive}
pub use Rattle.index_job.specs.declared.job_fault.JobFault.{JobFault}
pub use Rattle.index_job.specs.declared.message_end.Span.{Span}
pub use Rattle.mail_index.specs.Builders.{Draft, IsInArchive, IsInMessage, IsWithinMost, draft_with_key, draft_in_archive, draft_in_message, end_of, draft_after_archive, IsBuildRefusal, with_pair}
pub use Rattle.mail_index.specs.Limits.{most_in_archive, most_in_index}
pub use Rattle.mail_index.specs.Tables.{AllNext, Archive, Follows, IsArchive, IsKey, IsMessage, IsPath, IsWellFormed, Key, KeyBefore, archive_length}
pub use Rattle.mail_index.specs.Versions.{newest}
pub use Rattle.mail_index.specs.declared.build.build_fault.BuildFault.{BuildFault}
pub use Rattle.mail_index.specs.declared.build.build_fault.BuildFault.TheVariants.{OutOfMemory}
pub use Rattle.mail_index.specs.declared.kind.Kind.TheVariants.{LinkId, Text}
pub use Rattle.mail_index.specs.declared.record.Record.{Record}
pub use Rattle.mail_words.specs.Folding.{folding}
pub use Rattle.mail_words.specs.Words.{HasWordLength, range_bytes}
unfoldable pub use Rattle.mail_words.specs.Words.{words}
pub use Rattle.mail_words.specs.declared.kind.TextKind.{TextKind}
pub use Rattle.mbox_cutter.specs.Archives.{Message, grouped_lines, marked_lines, messages_from, size, span_length, text, total, without_closing}
unfoldable pub use Rattle.mbox_cutter.specs.Archives.{messages}
pub use Rattle.mbox_cutter.specs.Coming.{TakesKnown}
pub use Rattle.mbox_cutter.specs.Events.{ComingEvents, Done, End, Line, Start, coming_of}
unfoldable pub use Rattle.mbox_cutter.specs.Events.{events, archive_refusal}
pub use Rattle.mbox_cutter.specs.Places.{events_left}
pub use Rattle.mbox_cutter.specs.Progress.{Advances, Progress, event_with_line}
pub use Rattle.mbox_cutter.specs.Sources.{ReadsSource}
pub use Rattle.mbox_cutter.specs.declared.event.CutFault.{CutFault}
pub use Rattle.mbox_cutter.specs.declared.event.Event.{Event}
pub use Rattle.mime_text.specs.MessageFacts.{first_of}
unfoldable pub use Rattle.mime_text.specs.MessageFacts.{facts_of}
pub use Rattle.mime_text.specs.Sinks.{Breaks, Pair, TakesAll}
pub use Rattle.mime_text.specs.Texts.{texts_of_message}
pub use Rattle.mime_text.specs.declared.header.facts.Facts.{Facts}
pub use Rattle.mime_text.specs.declared.message_text.MessageText.{MessageText}
pub use Rattle.std.proofs.Common.{All, Bool, Bor, Err, FitsSigned, IfSome, IsAscii, List, None, Ok, Option, Result, Some, Vec, [], ap, append-nil, append_assoc, ap₂, arith, cond, drop, encode_utf8_all, false, flat_map, get_or, if◌then◌else◌, inl, inr, length, length-append, map, nat_eq, neg_ℤ, option_map, pos, refl, rules, subst, suc, sym, take, true, unwrap_or, w64, zero, ℕ, ℤ, ⊎_elim, ◌%◌, ◌&&◌, ◌*◌, ◌++◌, ◌+ℤ◌, ◌+◌, ◌-ℤ◌, ◌-◌, ◌/◌, ◌<◌, ◌==◌, ◌^◌, ◌∙◌, ◌∷◌, ◌≡◌, ◌≤◌, ◌⊎◌}
pub use Rattle.std.proofs.lemmas.Bool.{and_parts, leb-true, ltb-false, ltb-true}
pub use Rattle.std.proofs.lemmas.Bool.Decides.{nat_tests}
pub use Rattle.std.proofs.lemmas.Grind.{flat_map-append}
pub use Rattle.std.proofs.lemmas.List.{drop_more, length-drop, length-map, length-take, length-take-le, map-append}
pub use Rattle.std.proofs.lemmas.List.Elements.{All-tail, recursion_from_All}
pub use Rattle.std.proofs.lemmas.Result.{err_from_is_err_and}
pub use Rattle.std.specs.Global.{Global}
pub use Rattle.std.specs.List.{AllByRecursion, concat, find, slice_split}
pub use Rattle.std.specs.Option.{MatchOption, option_map_or}
pub use Rattle.std.specs.Prelude.{IfErr, OnOk, String, filter, slice_range, string_bytes, string_len, sum}
pub use Rattle.std.specs.Str.{bytes_eq, chars_after, continuation_len, lead_bits, str_to_ascii_lowercase}
unfoldable pub use Rattle.std.specs.Str.{chars}
