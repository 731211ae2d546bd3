-- The words of std and of the definitions that proofs use, from one place.
pub use Rattle.std.proofs.Common.{Bool, Bor, Err, Fits, FitsSigned, IfOk, IfSome, IsErr, IsSome, List, None, Ok, OnErr, OnOk, Option, Result, Some, Vec, [], add-one, ap, append-nil, append_assoc, ap₂, arith, cond, drop, drop-drop, false, flat_map, fold, get_or, if◌then◌else◌, inl, inr, length, length-append, length-drop, length-take-le, lit<, ltb, ltb-true, map, min, nat_cmp, nat_eq, nat_le, nat_lt, refl, replicate, rules, set, slice_get, slice_index, string_bytes, subst, suc, sym, take, take-take, true, w8, zero, ℕ, ℤ, ◌%◌, ◌&&◌, ◌*◌, ◌++◌, ◌+◌, ◌-◌, ◌/◌, ◌<◌, ◌^◌, ◌||◌, ◌↔◌, ◌∙◌, ◌∷◌, ◌≡◌, ◌≢◌, ◌≤◌}
pub use Rattle.std.proofs.Math.Facts.{Fits-lt-pow, Fits-of_z}
pub use Rattle.std.proofs.Math.Nat.{add-mul, mul-le-mul_right, mul_assoc, pow-suc, pow-succ'}
pub use Rattle.std.proofs.Math.Path.{transport}
pub use Rattle.std.proofs.Math.Seq.{drop-append_seam, drop-cons, get_or-append_seam, take-append_seam, take-length}
pub use Rattle.std.proofs.lemmas.Bool.{false≢true, leb-true}
pub use Rattle.std.proofs.lemmas.Bool.Decides.{Decides-eqb, nat_tests, same_from_decides}
pub use Rattle.std.proofs.lemmas.Cmp.{nat_list_cmp_total, ranked}
pub use Rattle.std.proofs.lemmas.Grind.{common_steps, flat_map-append}
pub use Rattle.std.proofs.lemmas.Int.{of_z-to_z, to_z-of_z}
pub use Rattle.std.proofs.lemmas.List.{drop-append-le, drop-map, drop-take, drop_at, drop_more, get_or-append-add, get_or-append_right, get_or-drop, get_or-map, get_or-set_other, get_or-set_same, get_or-take, get_or_append_left, get_or_past, length-map, length-set, length-take, map-append, map-set, set-get_or, take-append-drop, take-append-le, take-map}
pub use Rattle.std.proofs.lemmas.List.Edits.{insert-append_left, insert-append_right}
pub use Rattle.std.proofs.lemmas.List.Sums.{fold-append}
pub use Rattle.std.proofs.lemmas.Map.Keys.{Less-from_sorted}
pub use Rattle.std.proofs.lemmas.Map.Text.{is_eq-slice_cmp}
pub use Rattle.std.proofs.lemmas.Nat.{be_bytes_4, be_bytes_8, from_be_bytes-to_be_bytes_4, from_be_bytes-to_be_bytes_8}
pub use Rattle.std.proofs.lemmas.Slice.Eq.{bytes_eq-Decides, slice_eq-Decides}
pub use Rattle.std.specs.Cmp.{nat_cmp_is}
pub use Rattle.std.specs.Cmp.Lexicographic.{slice_cmp}
pub use Rattle.std.specs.Global.{Global}
pub use Rattle.std.specs.Int.{cast_signed, from_be_bytes, w64}
pub use Rattle.std.specs.Io.KnownBytes.{Appends}
pub use Rattle.std.specs.List.{AllByRecursion, concat, filter, insert, starts_with}
unfoldable pub use Rattle.std.specs.List.Sorted.{IsStrictlySortedBy}
pub use Rattle.std.specs.Option.{option_map}
pub use Rattle.std.specs.Ordering.{MatchOrdering, is_eq, is_lt, match_ordering, ordering_index, ordering_reverse, ordering_then}
pub use Rattle.std.specs.Prelude.{bytes_eq, is_some, slice_range, unwrap_or, ◌⊎◌}
pub use Rattle.std.specs.declared.cmp.Ordering.{Ordering}
pub use Rattle.std.specs.declared.cmp.Ordering.TheVariants.{Equal, Greater, Less}
pub use Rattle.mail_index.specs.Builders.{Draft, IsBetweenArchives, IsInMessage, IsNextMessage, archive_count, end_of, with_pair}
pub use Rattle.mail_index.specs.Directory.{AreEntries, IsEntryAt, end_before, list_at, read_entries, text_at}
unfoldable pub use Rattle.mail_index.specs.Directory.{is_entry, read_entry}
pub use Rattle.mail_index.specs.Faults.{EntryBefore, HasArchives, HasCounts, HasDigest, HasDirectory, HasPostings, HasRecords, IsEntry, IsFileOfTable, IsFirstFaultOfFile, IsSigned, digest_start, directory_start, postings_start, records_start, texts_start, version_told}
pub use Rattle.mail_index.specs.Fields.{are_zeros_at, byte_at, u32_at, u64_at}
pub use Rattle.mail_index.specs.Files.{DirectoryEntry, HasSmallSections, archive_bytes, archive_section, be32, be64, bit, body, counts, date_number, directory_from, entries, entry_bytes, entry_of_key, flags_byte, magic, postings_of, record_bytes, sections, texts_of, zeros}
unfoldable pub use Rattle.mail_index.specs.Files.{index_file}
pub use Rattle.mail_index.specs.KeysRead.{IsDirectory, key_at, key_of, keys_read, no_key}
pub use Rattle.mail_index.specs.Kinds.{is_kind_number, kind_number, kind_of_number}
pub use Rattle.mail_index.specs.Layouts.{IsChecked, IsLayout, table_of}
pub use Rattle.mail_index.specs.Lists.{AreLists, IsList}
pub use Rattle.mail_index.specs.LookUps.{AreSorted, comparisons, comparisons_within, is_key, is_of_kind, keys_beginning, keys_of, lies_to, numbers_at, text_and_numbers}
pub use Rattle.mail_index.specs.OrderOfKeys.{key_cmp}
pub use Rattle.mail_index.specs.Pairs.{IsIn, HasPosting}
pub use Rattle.mail_index.specs.PostingLists.{IsPosted, DecodingState, end_from, numbers_so_far, state_after_numbers}
unfoldable pub use Rattle.mail_index.specs.PostingLists.{numbers_of, state_after_byte, with_number}
pub use Rattle.mail_index.specs.PostingReads.{ArePosted, ArePostings, IsShort, numbers_after, shown_split}
unfoldable pub use Rattle.mail_index.specs.PostingReads.{numbers_read}
pub use Rattle.mail_index.specs.Postings.{differences_from, leb128, postings, postings_from}
pub use Rattle.mail_index.specs.Records.{AreRecords, HasArchive, IsNextRecord, SpellsArchives, after_archives, after_path, has_bit, is_after, read_archives, read_date, read_flags, read_records}
unfoldable pub use Rattle.mail_index.specs.Records.{after_archive, is_record, read_archive, read_record}
pub use Rattle.mail_index.specs.Steps.{add_steps}
pub use Rattle.mail_index.specs.Tables.{AllNext, Archive, Follows, IsArchive, IsKey, IsMessage, IsPath, IsWellFormed, Key, KeyBefore, RisesFrom, Table, archive_length}
pub use Rattle.mail_index.specs.Versions.{IsDigest, IsVersion, after_digest, digest_length, last_kind, newest, read_digest, version_number}
pub use Rattle.mail_index.specs.declared.kind.Kind.{Kind}
pub use Rattle.mail_index.specs.declared.kind.Kind.TheVariants.{LinkId, Text}
pub use Rattle.mail_index.specs.declared.record.Record.{Record}
