-- The words of std and of the definitions that proofs use, from one place.
pub use Rattle.contract_words.specs.Devices.{Sends}
unfoldable pub use Rattle.header_text.specs.Headers.{fields_of}
pub use Rattle.contract_words.specs.Knowledge.{AreStillKnown}
pub use Rattle.index_job.specs.ArchiveRefusals.{AreSound}
pub use Rattle.index_job.specs.ArchiveTables.{Mbox, all_messages, entry_of_archive, messages_in, record_of, records_from, table, with_messages}
pub use Rattle.index_job.specs.MessageTerms.{Term, id_terms, link_terms, message_terms, own_id_terms, text_terms}
pub use Rattle.index_run.proofs.SoundArchives.{sound-not-refused}
pub use Rattle.index_run.specs.ArchivesIndexed.{IsArchivesFault, RefusesArchives, mboxes}
pub use Rattle.mail_answer.proofs.OutputLaws.EveryAnswer.{some-chosen}
pub use Rattle.mail_answer.specs.Answers.{AnswersStale}
pub use Rattle.mail_answer.specs.Mail.{AreChosen, AreChosenBy, AreThreadsOf, IsChain, IsLedToBySome, Search, satisfying}
pub use Rattle.mail_answer.specs.Shapes.{answer_text, closed_text, known_answer, message_text, path_at, span}
pub use Rattle.mail_answer.specs.Stale.{first_changed, stale_archive}
pub use Rattle.mail_answer.specs.TableAnswers.{SendsTableAnswer, IsTableAnswer, TableAnswer, answer_of_numbers, mail_of_table}
pub use Rattle.mail_answer.specs.TableFacts.{facts_at, is_number_among, no_record, record_at, texts_with}
pub use Rattle.mail_answer.specs.Threads.{are_linked}
pub use Rattle.mail_answer.specs.Verified.{unverified_archive}
pub use Rattle.mail_answer.specs.declared.format.Format.{Format}
pub use Rattle.mail_answer.specs.declared.format.Format.TheVariants.{Excerpt, Raw}
pub use Rattle.mail_index.proofs.FileLaws.Bytes.{AreBytes}
pub use Rattle.mail_index.specs.Faults.{HasArchives, HasCounts, HasDigest, HasDirectory, HasRecords, IsFileOfTable, IsFirstFaultOfFile, IsSigned, digest_start, version_told}
pub use Rattle.mail_index.specs.Files.{DirectoryEntry, index_file, magic}
pub use Rattle.mail_index.specs.Kinds.{kind_number}
pub use Rattle.mail_index.specs.LookUps.{is_of_kind, keys_of}
pub use Rattle.mail_index.specs.Tables.{AllNext, Archive, Follows, IsArchive, IsKey, IsMessage, IsPath, IsWellFormed, Key, KeyBefore, Table, archive_length}
pub use Rattle.mail_index.specs.Versions.{IsDigest, IsVersion, newest}
pub use Rattle.mail_index.specs.declared.kind.Kind.{Kind}
pub use Rattle.mail_index.specs.declared.kind.Kind.TheVariants.{LinkId, OwnId, Text}
pub use Rattle.mail_index.specs.declared.record.Record.{Record}
pub use Rattle.mail_index.specs.declared.view.fault.IndexFault.{IndexFault}
pub use Rattle.mail_index.specs.declared.view.fault.IndexFault.TheVariants.{BadDigest, BadLayout, BadMagic, BadVersion, TooShort}
pub use Rattle.mail_query.specs.Query.{Any, Date, Either, End, HasFlag, More, Not, Part, Prefix, Queries, Query, Size, Word, uses_names}
pub use Rattle.mail_query.specs.Truth.{word_begins_with, contains_text, each_is_true, has_flag, is_same, is_true, some_is_true, some_word, without_names, words_but_names}
pub use Rattle.mail_words.specs.Folding.{folding}
pub use Rattle.mail_words.specs.Words.{words}
pub use Rattle.mail_words.specs.declared.kind.TextKind.{TextKind}
pub use Rattle.mail_words.specs.declared.kind.TextKind.TheVariants.{Name}
pub use Rattle.mairix_tool.specs.Altered.{HaveDistinctDigests, altered_archive}
pub use Rattle.mairix_tool.specs.Asked.{Wanted, wanted_of_words, wanted_of_plan, asked_rc, query_asked, shown_wanted, wanted_by}
pub use Rattle.mairix_tool.specs.Chosen.{facts_of_message, id_list, is_kind, words_of}
pub use Rattle.mairix_tool.specs.MailOfArchives.{Numbered, link_ids, mail_in, nobody, numbered_at, numbered_messages, shape, share_id}
pub use Rattle.mairix_tool.specs.OldTables.{HasDigests, ServesFor, but_digests, keys_but_names, old_table, without_digest}
pub use Rattle.mairix_tool.specs.Replies.{Answer, answer_of_fault, status_of_count}
pub use Rattle.mairix_tool.specs.Runs.{IsAnswer, IsCountedWhere, IsForNoOtherCause, IsAnswerFrom, IsIndexRefusal, IsOldOr, IsOnceReply, IsVerifiedAnswer, IsRefusedAs, IsReply, IsStaleOr, IsStoredReply, IsThisOrMemory, IsAnswerOrStale, IsStoredAnswer, IsUnindexed, RepliesBy, ReportsProved, WereVerified, answer_of_text, fault_of_answer_kind, first_renamed, is_too_old, renamed_archive, reply_of, unproved_archive}
pub use Rattle.mairix_tool.specs.declared.reply.Reply.{Reply}
pub use Rattle.mbox_cutter.specs.Archives.{Message, messages, span_length, text}
unfoldable pub use Rattle.mime_text.specs.MessageFacts.{facts_of}
pub use Rattle.mime_text.specs.Sinks.{Pair}
pub use Rattle.mime_text.specs.Texts.{texts_of_message}
pub use Rattle.mime_text.specs.declared.header.facts.Facts.{Facts}
pub use Rattle.run_faults.specs.Faults.{IsOfAnswer, is_failure, refusal_of_fault}
pub use Rattle.run_faults.specs.declared.fault.Fault.{Fault}
pub use Rattle.std.proofs.Common.{All, Bool, Err, IfErr, IfOk, IfSome, List, None, Ok, Option, Result, Some, [], add-one, ap, append-nil, append_assoc, ap₂, arith, bytes_eq, cond, drop, drop-cons, eq-eqb, false, filter, flat_map, get_or, if◌then◌else◌, inl, inr, length, length-append, length-drop, map, min, nat_eq, not, refl, string_bytes, subst, suc, sym, take, true, unwrap_or, zero, ℕ, ◌&&◌, ◌++◌, ◌+◌, ◌-◌, ◌<◌, ◌==◌, ◌^◌, ◌||◌, ◌∙◌, ◌∷◌, ◌≡◌, ◌≤◌}
pub use Rattle.std.proofs.Math.Bool.{or-false}
pub use Rattle.std.proofs.lemmas.Bool.{eqb-true, false≢true}
pub use Rattle.std.proofs.lemmas.Bool.Decides.{eqb_tells, leb_tells, nat_tests}
pub use Rattle.std.proofs.lemmas.List.{get_or-map, get_or_at, length-map, length_push, map-append}
pub use Rattle.std.proofs.lemmas.List.Elements.{All-cons, All-head, All-map, All-nil, All-tail, Contains-append_left, Contains-append_right, recursion_from_All}
pub use Rattle.std.proofs.lemmas.List.Folds.{flat_map-map, list_any-append}
pub use Rattle.std.proofs.lemmas.Slice.Eq.{bytes_eq-Decides}
pub use Rattle.std.specs.Io.KnownBytes.{Appends, Keeps}
pub use Rattle.std.specs.List.{AllByRecursion, join_by, join_with_byte, list_any, range_with_len, slice_get, slice_index_or}
pub use Rattle.std.specs.Option.{option_map, option_map_or, option_or}
pub use Rattle.std.specs.Prelude.{Contains, nat_le, ⊤, ◌⊎◌}
pub use Rattle.std.specs.declared.cmp.Ordering.TheVariants.{Less}
