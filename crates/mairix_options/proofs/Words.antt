-- The names of std and of the definitions that proofs use, all from one place.
pub use Rattle.clap.proofs.WalkLemmas.{first_value-rows, raw_values-rows}
pub use Rattle.clap.specs.Words.{FailsBy, HasMatchesOf, Text, app_of, fault_of, found_of, is_simple, is_simple_and_free, kind_of, matches_of, rows_of, with_rule}
pub use Rattle.clap.specs.declared.error.Error.{Error}
pub use Rattle.clap.specs.declared.error.kind.ErrorKind.{ErrorKind}
pub use Rattle.clap.specs.declared.parser.matches.ArgMatches.{ArgMatches}
pub use Rattle.contract_words.proofs.Collecting.{if_some_map}
pub use Rattle.contract_words.specs.Answers.{Gives, ◌>>=◌}
pub use Rattle.mail_index.specs.Tables.{IsPath}
pub use Rattle.contract_words.specs.Blanks.{is_blank}
unfoldable pub use Rattle.mairix_options.specs.Blanks.{text_without_blanks}
pub use Rattle.mairix_options.specs.CommandLine.{command, error_refusal, fault_of_kind, kind_refusal, one_format, parse_by, plan_in, plan_of_rows, refusal_of_kind}
unfoldable pub use Rattle.mairix_options.specs.CommandLine.{parse, plan}
pub use Rattle.mairix_options.specs.Path.{archive_path, has_expansion, has_three_dots, has_wildcard, is_path, mfolder_path, under}
pub use Rattle.mairix_options.specs.Rcfile.{all_fit, all_paths, archives_in, archives_misfit, archives_of, assignment, base_in, database_in, earlier, entry, first_misfit, format_in, format_of, paths_if_any, is_skipped, keyword_of, last_value_of, line_settings, lines_in, mfolder_in, mfolder_misfit, names_in_value, paths_in, rc_fitting, rc_from, rc_of, rc_with, required_value, setting_of, settings_from, supported_setting, text_settings}
pub use Rattle.or_memory.specs.Refusals.{refusal}
pub use Rattle.mairix_options.specs.declared.command_line.Plan.{Plan}
pub use Rattle.mairix_options.specs.declared.command_line.UsageFault.{UsageFault}
pub use Rattle.mairix_options.specs.declared.mail_format.MailFormat.{MailFormat}
pub use Rattle.or_memory.specs.declared.or_memory.OrMemory.{OrMemory}
pub use Rattle.mairix_options.specs.declared.rcfile.Rc.{Rc}
pub use Rattle.mairix_options.specs.declared.rcfile.RcFault.{RcFault}
pub use Rattle.mairix_options.specs.declared.rcfile.RcFault.TheVariants.{BadFormat, BadLine, Expansion, Missing, NotSupported, Wildcard}
pub use Rattle.mairix_options.specs.declared.setting.ArchivesLine.{ArchivesLine}
pub use Rattle.mairix_options.specs.declared.setting.MfolderLine.{MfolderLine}
pub use Rattle.mairix_options.specs.declared.setting.Setting.{Setting}
pub use Rattle.mairix_options.specs.declared.setting.Setting.TheVariants.{Archives, Base, Database, Format, Mfolder}
pub use Rattle.std.proofs.Common.{Bool, Err, IfOk, IfSome, List, None, Ok, Option, Result, Some, [], ap, append-nil, arith, codes, drop, encode_utf8, false, filter, get_or, if◌then◌else◌, is_some, length, lit<, map, nat_eq, nat_lt, not, option_map, refl, replicate, reverse, slice_get, string_bytes, subst, suc, sym, take, true, unwrap_or, zero, ℕ, ⊎_elim, ◌&&◌, ◌++◌, ◌+◌, ◌-◌, ◌<◌, ◌==◌, ◌^◌, ◌||◌, ◌↔◌, ◌∙◌, ◌∷◌, ◌≡◌, ◌≢◌, ◌≤◌, ◌⊎◌}
pub use Rattle.std.proofs.lemmas.Bool.{and_parts, cases_lt, false_from_ne_true, false≢true, not-false, not-true, or_cases, or_parts, or_right}
pub use Rattle.std.proofs.lemmas.Bool.Decides.{Decides-eqb, nat_tests, same_from_decides}
pub use Rattle.std.proofs.lemmas.List.{drop_all, get_or-reverse, length-drop, take_all}
pub use Rattle.std.proofs.lemmas.List.Elements.{All-append, All-cons, All-filter, All-head, All-nil, All-tail, filter_map-append}
pub use Rattle.std.proofs.lemmas.List.Sums.{passes_at_first, prefix_len-le-length, prefix_len_passes, suffix_len-le-length}
pub use Rattle.std.proofs.lemmas.Str.{IsCharBoundary-after_ascii, IsCharBoundary-before_ascii, IsCharBoundary-end, IsCharBoundary-start, IsUtf8-append, IsUtf8-drop, IsUtf8-from_ascii, IsUtf8-from_is_utf8, IsUtf8-nil, IsUtf8-take, is_utf8-from_IsUtf8}
pub use Rattle.std.proofs.lemmas.Str.Pattern.{contains_text, split_once_first, starts_text}
pub use Rattle.std.specs.List.{All, AllByRecursion, after_first, before_first, cons_option, filter_map, last_or, list_all, list_any, position_or_len, prefix_len, slice_index, slice_split, starts_with, suffix_len}
pub use Rattle.std.specs.Option.{option_and_then, option_map_or}
pub use Rattle.std.specs.Str.{IsCharBoundary, IsUtf8, bytes_eq, is_utf8}
unfoldable pub use Rattle.std.specs.Str.{chars}
pub use Rattle.std.specs.Str.Iter.{HasSubslice, split_has_more, split_pattern, split_text}
