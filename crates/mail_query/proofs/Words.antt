-- The names of std and of the definitions that proofs use, all from one place.
pub use Rattle.contract_words.proofs.Collecting.{if_some_map, with_front-append}
pub use Rattle.contract_words.specs.Answers.{Gives, fault_as, with_front, ◌>>=◌}
pub use Rattle.mail_dates.specs.declared.range.Range.{Range}
pub use Rattle.mail_query.specs.BooleanFaults.{close_fault, deep_fault, err_of, fields_before, first_fault, first_fault_from, first_some, is_not, is_wanted, needs_operator, open_count, operator_fault, term_fault, token_fault, waiting_count}
pub use Rattle.mail_query.specs.BooleanGrammar.{Beside, ByAnd, ByOr, Chain, Group, Item, Last, Leaf, Link, NotOf, Reads, Then, chain_queries, chain_tokens, into_first, is_fine_chain, is_fine_item, item_query, item_tokens, link_tokens, with_link, plain_prefix, query_or_any, seen_after, term_prefix, tree_query}
pub use Rattle.mail_query.specs.BooleanReading.{ForClose, ForNot, Level, State, Waiting, state_after_close, cut_term_step, deeper, each_ended, empty_level, query_at_end, has_open, is_negated, state_after_and, level_query, level_with_prefix, state_after_or, parts_step, state_after_operand, state_after_group, run_ended, run_from, start, step, term_step, tokens_query, with_member}
pub use Rattle.mail_query.specs.BooleanTerms.{TermParts, cut_query, has_field, is_phrase, no_fields, parts_of, parts_query, with_field}
pub use Rattle.mail_query.specs.FlagGrammar.{AreFlags, EachFlag, IsFlags, NoFlag}
pub use Rattle.mail_query.specs.Flags.{flag_of, flags_after, some_of, with_flag}
unfoldable pub use Rattle.mail_query.specs.Flags.{flags_of_text}
pub use Rattle.mail_query.specs.Inside.Reading.{forms_of, fault_with_number}
pub use Rattle.mail_query.specs.Inside.Shown.{blank_count, nearest_first, run_length, shown_level, shown_stack, shown_waiting}
pub use Rattle.mail_query.specs.Kinds.{no_kinds, union}
pub use Rattle.mail_query.specs.Lexicon.{Lexicon}
pub use Rattle.mail_query.specs.Mail.{mail_lexicon, mairix_query, pattern_lexicon}
pub use Rattle.mail_query.specs.Mairix.{Forms, all_query, atom_query, each_read, flags_query, found_query, id_forms, is_approximate, may_be_id, is_sign, kinds_of, kinds_of_letter, kinds_with, marked_query, part_query, pattern_query, patterns_from, patterns_query, plain_kinds, prefix_query, prefixed_query, rest_query, term_query, word_forms}
pub use Rattle.mail_query.specs.MairixFaults.{AsksApproximately, After, Digits, HasNoDate, HasNoFlags, HasNoForm, HasNoPrefix, HasNoSize, HasNone, InAll, InId, InPattern, InPlain, InTerm, InUnwanted, InWanted, InWords, IsAllFault, IsApproximate, IsAtomFault, IsFirstFault, IsFirstOf, IsPatternFault, IsPatternPrefix, IsRestFault, IsTermFault, OfKinds}
pub use Rattle.mail_query.specs.MairixGrammar.{Alone, AndAlso, AreLetters, ArePatterns, AskNothing, Before, EachPattern, EachTerm, FrontOfWord, HasNoSigns, InKinds, IsAll, IsAsked, IsAtom, IsPattern, IsRest, IsTerm, OfDate, OfFlags, OfId, OfSize, Only, PartOfWord, Plain, Separated, SomeAll, Unwanted, Wanted, WholeWord, is_letter_among, kinds_named}
pub use Rattle.mail_query.specs.Pieces.{texts_around, is_byte, is_nonempty, without_first, without_last}
pub use Rattle.mail_query.specs.Query.{Any, Date, Either, End, HasFlag, More, Not, Part, Prefix, Queries, Query, Size, Word, all_of, deepest, depth, either_of, have_names, kinds_inside, kinds_sought, members_of, queries_of, query_of, uses_names}
pub use Rattle.mail_query.specs.SizeGrammar.{Between, FromSize, FromZero, InBytes, InUnits, IsHigh, IsLow, IsNumber, IsSize, IsSizes, ToSize, Unbounded}
pub use Rattle.mail_query.specs.Sizes.{before_last_byte, factor_of, high_of, last_byte, low_of, scaled_size, size_limit, size_with, sizes_between}
unfoldable pub use Rattle.mail_query.specs.Sizes.{size_of, sizes_of}
pub use Rattle.mail_query.specs.Tokens.{AndSign, Close, NotSign, Open, OrSign, Term, Token}
unfoldable pub use Rattle.mail_query.specs.Tokens.{query_tokens}
pub use Rattle.mail_query.specs.Truth.{Facts, each_is_true, is_true, some_is_true, some_word, without_names}
pub use Rattle.mail_query.specs.declared.boolean.field.Field.{Field}
pub use Rattle.mail_query.specs.declared.boolean.field.Fields.{Fields}
pub use Rattle.mail_query.specs.declared.fault.QueryFault.{QueryFault}
pub use Rattle.mail_query.specs.declared.fault.QueryFaultKind.{QueryFaultKind}
pub use Rattle.mail_query.specs.declared.fault.QueryFaultKind.TheVariants.{Approximate, BadDate, BadFlag, BadParenthesis, BadPrefix, BadSize, BadWord, MissingTerm, NeedsOperator, NoPattern, Phrase, TooDeep}
pub use Rattle.mail_query.specs.declared.kinds.Kinds.{Kinds}
pub use Rattle.mail_words.specs.declared.flags.Flag.{Flag}
pub use Rattle.mail_words.specs.declared.flags.Flag.TheVariants.{Flagged, Replied, Seen}
pub use Rattle.or_memory.specs.Refusals.{refusal}
pub use Rattle.or_memory.specs.declared.or_memory.OrMemory.{OrMemory}
pub use Rattle.std.proofs.Common.{Bool, Box, Err, Global, IfErr, IfOk, IfSome, IsUtf8, List, MatchOption, None, Ok, Option, Result, Some, String, [], add-one, ap, append-nil, append_assoc, arith, chars, cond, drop, drop-cons, eqb, false, get_or, inl, inr, length, length-append, lit<, ltb, ltb-true, map, max, not, option_map, refl, rules, string_bytes, subst, suc, sym, take, true, vec_len, zero, ℕ, ◌&&◌, ◌*◌, ◌++◌, ◌+◌, ◌-◌, ◌<◌, ◌||◌, ◌∙◌, ◌∷◌, ◌≡◌, ◌≢◌, ◌≤◌}
pub use Rattle.std.proofs.Math.Bool.{or-false}
pub use Rattle.std.proofs.Math.Seq.{drop-append-add, get_or-append_seam, take-append_seam}
pub use Rattle.std.proofs.lemmas.Bool.{agree_below_at, and_from, and_parts, both_ways, cases_lt, cond_both, eqb-true, false_from_ne_true, le-leb, leb-true, lt-leb, lt-ltb, not-true, or_from, or_left, or_parts}
pub use Rattle.std.proofs.lemmas.Bool.Decides.{eqb_tells, nat_tests}
pub use Rattle.std.proofs.lemmas.Iterator.Consumers.{YieldsList-end, YieldsList-turn}
pub use Rattle.std.proofs.lemmas.Iterator.Splits.{YieldsList-from_str_split}
pub use Rattle.std.proofs.lemmas.List.{drop_all, get_or-map, length-map, length_push}
pub use Rattle.std.proofs.lemmas.List.Elements.{All-cons, All-head, All-map, All-nil, All-tail}
pub use Rattle.std.proofs.lemmas.Option.{cond_some, none-some, option_and_then_some, slice_get-get_or}
pub use Rattle.std.proofs.lemmas.Result.{MatchResult-at_err, MatchResult-at_ok, MatchResult-weaker}
pub use Rattle.std.proofs.lemmas.Slice.Eq.{bytes_eq-Decides}
pub use Rattle.std.proofs.lemmas.Str.{IsCharBoundary-after_ascii, IsUtf8-drop, IsUtf8-string_bytes, IsUtf8-take, NoCharPasses-byte, encodes-chars}
pub use Rattle.std.proofs.lemmas.Str.Pattern.{split_parts, strip_prefix_char, strip_suffix_char}
pub use Rattle.std.specs.Char.{is_ascii_alphabetic, is_ascii_alphanumeric, is_ascii_digit}
pub use Rattle.std.specs.List.{All, IsLastAndRest, join_with_byte, list_all, list_any, slice_split}
pub use Rattle.std.specs.Option.{option_copied, option_or}
pub use Rattle.std.specs.Prelude.{bytes_eq, codes, if◌then◌else◌, is_none, is_ok, nat_le, ok_or, option_and_then, ◌==◌, ◌↔◌, ◌⊎◌}
pub use Rattle.std.specs.Result.{MatchResult}
pub use Rattle.std.specs.Str.{NoCharPasses, NonePass, str_to_ascii_lowercase}
