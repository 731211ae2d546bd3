-- The words of std and of the definitions that proofs use, from one place.
pub use Rattle.contract_words.proofs.Sending.{appends-nil, appends_join}
pub use Rattle.contract_words.specs.Archives.{IsReadFromArchive, archive_at}
pub use Rattle.contract_words.specs.Knowledge.{WasKnown}
pub use Rattle.header_text.specs.Headers.{HeaderField, lines_before_empty}
unfoldable pub use Rattle.header_text.specs.Headers.{fields_of}
pub use Rattle.mail_answer.specs.Answers.{SendsKnown, SendsSpans}
pub use Rattle.mail_answer.specs.Asked.{Agree, HoldsArchives, TellLengths, indexed_lengths}
pub use Rattle.mail_answer.specs.Closing.{after_next, feed, feeds_after, has_feed, next_text}
pub use Rattle.mail_answer.specs.CursorAhead.{WalkAhead, CountsSteps, CountsPostings, Drops, IsFirst, Reaches, Spends, both, common, steps_left_in, lesser_of, levels, one_or_other, others, postings_in, union_of}
pub use Rattle.mail_answer.specs.CursorNumbers.{AreWithin, TakesFirst, TakesFrom, numbers_to_come}
pub use Rattle.mail_answer.specs.Cursors.{LooksUp, compared_in_all, is_in, kinds_in, look_up_steps, look_up_steps_of_all, look_ups, look_ups_of_all, most_left, most_left_of_all, numbers_named, numbers_of_keys}
pub use Rattle.mail_answer.specs.CutAgain.{IsCutInto, IsCutOut, ends_in_return, places_from}
pub use Rattle.mail_answer.specs.Excerpts.{excerpt_lines, shown_byte}
unfoldable pub use Rattle.mail_answer.specs.Excerpts.{excerpt}
pub use Rattle.mail_answer.specs.Inside.Calls.{KeepsArchives}
pub use Rattle.mail_answer.specs.Inside.CursorLists.{AreNumbers, is_before, numbers_ahead, truths_among}
pub use Rattle.mail_answer.specs.Inside.CursorMarks.{AreFew, HaveMarks, IsFirstMark, marked_or_listed, those_from, marks_in, truths_marked}
pub use Rattle.mail_answer.specs.Inside.CursorScans.{IsFound, Scans, satisfies, truths_scanned}
pub use Rattle.mail_answer.specs.Inside.CursorTexts.{HaveNumbers, any_text, compared_by, looked_up_by, numbers_fitting, numbers_passing, some_has, some_of_kinds}
pub use Rattle.mail_answer.specs.Inside.Digests.{AbsorbsPart, ReadsDigest, front_digest}
pub use Rattle.mail_answer.specs.Inside.Endings.{ending_of_bytes, ending_of_line, feeds_of, line_of, with_byte}
pub use Rattle.mail_answer.specs.Inside.Forests.{AreBothAmong, AreInOneTree, LabelsTrees, LeadsBack, ShareKey, Shortens, StaysInThreads, AreThreadRoots, Unites}
pub use Rattle.mail_answer.specs.Inside.HeaderReads.{HasFields, HasFieldsAfter, WillHaveFields}
pub use Rattle.mail_answer.specs.Inside.PassedArchives.{ArePassed}
pub use Rattle.mail_answer.specs.Inside.Readings.{IsInsideArchive, Reading, AppendsRead, ReadsTail, bytes_left, reading, span_reading}
pub use Rattle.mail_answer.specs.Inside.Writing.{IsReadyToWrite, IsSameAnswer}
pub use Rattle.mail_answer.specs.Mail.{AreChosen, AreChosenBy, AreThreadsOf, IsChain, IsLedTo, IsLedToBySome, Search, satisfying}
pub use Rattle.mail_answer.specs.Marks.{Adds, each_number, fits, some_key, truth_at}
pub use Rattle.mail_answer.specs.Pieces.{ReadsFront, TellPieces}
pub use Rattle.mail_answer.specs.Shapes.{AreSpansOf, answer_text, is_closed, known_answer, known_message, last_line_of, message_text, path_at, raw_line, span}
unfoldable pub use Rattle.mail_answer.specs.Shapes.{closed_text}
pub use Rattle.mail_answer.specs.Sheets.{AddsBytes, JoinsFront, IsIfKnown, WritesText, count_after, joined_texts}
pub use Rattle.mail_answer.specs.Stale.{ReportsStale, first_changed, length_in_table, stale_archive}
pub use Rattle.mail_answer.specs.TableAnswers.{SendsTableAnswer, IsTableAnswer, TableAnswer, answer_of_numbers, mail_of_table, search_of}
pub use Rattle.mail_answer.specs.TableFacts.{chosen_numbers, facts_at, is_number_among, no_record, record_at, texts_with, truths}
pub use Rattle.mail_answer.specs.Threads.{AreThreads, IsInThread, IsInThreadOfSome, IsPathOfLinks, are_linked}
pub use Rattle.mail_answer.specs.Verified.{AreReadOnce, AreVerified, FindsDigests, ReadEach, ReportsVerified, first_altered, has_digest, unverified_archive}
pub use Rattle.mail_answer.specs.declared.archives.Archives.{Ghosts}
pub use Rattle.mail_answer.specs.declared.cursor.texts.Fit.TheVariants.{Front, Whole, Within}
pub use Rattle.mail_answer.specs.declared.fault.AnswerFaultKind.{AnswerFaultKind}
pub use Rattle.mail_answer.specs.declared.fault.AnswerFaultKind.TheVariants.{Device, OutFailed, OutOfMemory, Stale}
pub use Rattle.mail_answer.specs.declared.format.Format.TheVariants.{Excerpt, Mbox, Raw}
pub use Rattle.mail_answer.specs.declared.output.ending.Ending.{Ending}
pub use Rattle.mail_answer.specs.declared.output.ending.Ending.TheVariants.{Empty, Ended, Open, Return}
pub use Rattle.mail_answer.specs.declared.output.sheet.Sheet.{Sheet}
pub use Rattle.mail_index.proofs.ViewLaws.RunLemmas.{bytes_turned}
pub use Rattle.mail_index.specs.Layouts.{archive_of}
pub use Rattle.mail_index.specs.LookUps.{AreSorted, TakesDigits, is_key, keys_beginning, keys_of, numbers_at, text_and_numbers}
pub use Rattle.mail_index.specs.Steps.{add_steps}
pub use Rattle.mail_index.specs.Tables.{AllNext, Archive, IsArchive, IsKey, IsMessage, IsWellFormed, Key, KeyBefore, RisesFrom, Table, archive_length}
pub use Rattle.mail_index.specs.Versions.{newest}
pub use Rattle.mail_index.specs.declared.kind.Kind.{Kind}
pub use Rattle.mail_index.specs.declared.kind.Kind.TheVariants.{LinkId, OwnId, Text}
pub use Rattle.mail_index.specs.declared.record.Record.{Record}
pub use Rattle.mail_query.specs.Kinds.{has_kind, no_kinds}
pub use Rattle.mail_query.specs.Query.{All, Any, Date, Either, End, HasFlag, Not, Part, Prefix, Query, Size, Word, members_of, queries_of, query_of}
pub use Rattle.mail_query.specs.Truth.{word_begins_with, contains_text, each_is_true, is_true, some_is_true, some_word, text_kinds}
pub use Rattle.mail_query.specs.declared.kinds.Kinds.{Kinds}
pub use Rattle.mail_query.specs.declared.node.Node.{Node, the_lemmas}
pub use Rattle.mail_words.specs.declared.kind.TextKind.TheVariants.{Body, Name, Subject, To}
pub use Rattle.mbox_cutter.proofs.FirstLines.{first_length-le, first_length-positive, length_before_feed-append_out, length_before_feed-le, line_end-more}
pub use Rattle.mbox_cutter.proofs.LineLists.{lines-cons, lines-nil}
pub use Rattle.mbox_cutter.specs.Archives.{Message, spans_of, grouped_lines, is_refused, marked_lines, messages_from, span_length, total}
unfoldable pub use Rattle.mbox_cutter.specs.Archives.{messages}
pub use Rattle.mbox_cutter.specs.LineReaders.{TakesFirstLine, known_bytes}
pub use Rattle.mbox_cutter.specs.Lines.{AreCut, IsLine, length_before_feed}
unfoldable pub use Rattle.mbox_cutter.specs.Lines.{first_length, is_empty, line_end_of, lines}
unfoldable pub use Rattle.mbox_cutter.specs.Separators.{has_form, is_separator, without_break}
pub use Rattle.mbox_cutter.specs.declared.device.DeviceFault.{DeviceFault}
pub use Rattle.sha2.specs.Sha256.{sha256}
pub use Rattle.std.proofs.Common.{Bool, Err, Global, IfOk, IfSome, IsErr, List, None, Ok, OnOk, Option, Result, Some, Vec, [], add-one, ap, append-nil, append_assoc, ap₂, arith, bytes_eq, cond, drop, drop-cons, eq-eqb, eqb, false, get_or, inl, inr, le-leb, length, length-append, length-drop, length-take, length-take-le, map, max, min, nat_eq, nat_lt, not, refl, replicate, rules, subst, suc, sym, take, take-add, take_all, true, vec_len, zero, ℕ, ◌&&◌, ◌*◌, ◌++◌, ◌+◌, ◌-◌, ◌/◌, ◌%◌, ◌<◌, ◌==◌, ◌^◌, ◌||◌, ◌∙◌, ◌∷◌, ◌≡◌, ◌≢◌, ◌≤◌, ◌⊎◌}
pub use Rattle.std.proofs.Math.Bool.{and-false, and-true, and_assoc, and_comm, or-false, or_assoc, or_comm}
pub use Rattle.std.proofs.Math.ListN.{set}
pub use Rattle.std.proofs.Math.Nat.{add-mul, suc-mul}
pub use Rattle.std.proofs.Math.Seq.{drop-append_seam, take-append-add, take-append_seam}
pub use Rattle.std.proofs.lemmas.Bool.{and_from, and_left, and_parts, and_right, both_ways, cases_lt, cases_order, eqb-false, eqb-true, false_from_ne_true, lt-leb, ltb-false, ltb-true, ne_eqb, or_cases, or_from, or_left, or_parts, or_right}
pub use Rattle.std.proofs.lemmas.Bool.Decides.{eqb_tells, nat_tests}
pub use Rattle.std.proofs.lemmas.List.{drop-append-le, drop-drop, drop_all, drop_more, ext_get_or, get_or-append-add, get_or-map, get_or-replicate, get_or-set_other, get_or-set_same, get_or-take, get_or_append_left, get_or_default, get_or_past, length-map, length-replicate, length-set, map-append, map-id, take-append-drop, take-append-le, take-set, take-take, take_more, take_more_set, take_rest}
pub use Rattle.std.proofs.lemmas.List.Concat.{concat_is, flat_map-append, flat_map-cons}
pub use Rattle.std.proofs.lemmas.List.Folds.{concat-append, flat_map-map}
pub use Rattle.std.proofs.lemmas.List.FromFn.{fill_by_all, filter_of_map_range_with_len_more, get_or-map-range_with_len, get_or-range_with_len, length-map-range_with_len, length-range_with_len, map-range_with_len_more}
pub use Rattle.std.proofs.lemmas.Result.{err_from_is_err_and}
pub use Rattle.std.proofs.lemmas.Slice.Eq.{bytes_eq-Decides}
pub use Rattle.std.specs.Io.KnownBytes.{Appends, Keeps}
pub use Rattle.std.specs.List.{AllByRecursion, concat, filter, flat_map, list_any, range_with_len, slice_get, slice_index, slice_index_or, starts_with, sum_by, swap_remove}
pub use Rattle.std.specs.Option.{option_map, option_map_or, option_or, option_to_list}
pub use Rattle.std.specs.Prelude.{IfNone, MatchOption, codes, is_some, nat_le, pos}
