-- The names of std and of the definitions that the proofs use, in one place.
pub use Rattle.bstr.proofs.lemmas.AppendLemmas.{Extends-append, Extends-refl, Extends-trans, Extends-tried}
pub use Rattle.bstr.proofs.lemmas.EncodeLemmas.{lossy_chars-utf8}
pub use Rattle.bstr.specs.Text.{Extends}
pub use Rattle.bstr.specs.Utf8.{lossy_chars, or_replacement}
unfoldable pub use Rattle.bstr.specs.Utf8.{pieces_from}
pub use Rattle.header_text.specs.Base64.{bytes_of_symbols}
unfoldable pub use Rattle.header_text.specs.Base64.{base64_bytes, bytes_of_sextets, sextet}
pub use Rattle.header_text.specs.Blanks.{after_blanks, split_while}
pub use Rattle.contract_words.specs.Blanks.{is_blank}
unfoldable pub use Rattle.header_text.specs.Blanks.{before_blanks}
pub use Rattle.header_text.specs.Names.{is_named}
pub use Rattle.header_text.specs.Charsets.{character, charset_named, plain_label, windows_1252_upper}
unfoldable pub use Rattle.header_text.specs.Charsets.{charset_of, text_of}
pub use Rattle.header_text.specs.Cuts.{cut_at}
pub use Rattle.header_text.specs.EncodedWords.{AreLeftmost, BeginsWord, EncodedWord, NoneBegins, Pieces, WordAfter, after, equals_sign, is_b, is_charset_byte, is_q, is_text_byte, is_well_formed, later_words_text, onto_front, value_pieces, pieces_after, plain_text, question, spelling_of, text_between, word_of, word_text, words_text, ◌>>=◌}
unfoldable pub use Rattle.header_text.specs.EncodedWords.{decoded_value, word_and_later, word_at}
pub use Rattle.header_text.specs.Escapes.{after_equals, escaped_byte, unescaped_by}
unfoldable pub use Rattle.header_text.specs.Escapes.{q_bytes, unescaped_bytes}
pub use Rattle.header_text.specs.Headers.{HeaderField, continued_and_fields, field_of_line, fields_in, fields_size, header, is_continuation, is_field_name_byte, lines_before_empty, lines_within, most_in_header, field_of_name, with_continuations}
unfoldable pub use Rattle.header_text.specs.Headers.{fields_of}
pub use Rattle.header_text.specs.Ids.{begins_with_byte, close_sign, ids_size, is_id_range, is_id_byte, is_inside_id, kept_ids, open_sign}
unfoldable pub use Rattle.header_text.specs.Ids.{ids_of}
pub use Rattle.header_text.specs.Inside.Alphabet.{is_symbol}
pub use Rattle.header_text.specs.Inside.Breaks.{added_part, without_final_cr}
pub use Rattle.header_text.specs.Inside.Fronts.{IsFront}
pub use Rattle.header_text.specs.Inside.Ids.{after_last_open, closed_texts, ids_of_texts, onto_first}
pub use Rattle.header_text.specs.Inside.ShownWords.{no_word, shown_found, shown_word, word_first}
pub use Rattle.header_text.specs.OpenFields.{fields_with, is_field_open_after, is_field_open_after_lines, onto_last}
pub use Rattle.header_text.specs.Stages.{has_empty, lines_size, stage_after}
unfoldable pub use Rattle.header_text.specs.Stages.{stage_of}
pub use Rattle.header_text.specs.Symbols.{symbols_of}
pub use Rattle.header_text.specs.Unfolding.{without_breaks}
unfoldable pub use Rattle.header_text.specs.Unfolding.{unfolded_body}
pub use Rattle.header_text.specs.declared.charset.Charset.{Charset}
pub use Rattle.header_text.specs.declared.charset.Charset.TheVariants.{Latin1, Latin9, Unknown, Utf8, Windows1252}
pub use Rattle.header_text.specs.declared.field_list.FieldPlace.{FieldPlace}
pub use Rattle.header_text.specs.declared.header.Stage.TheVariants.{Ended, Full, Open}
unfoldable pub use Rattle.mbox_cutter.specs.Lines.{is_empty}
pub use Rattle.std.proofs.Common.{Bool, Bor, List, None, Option, Some, [], add-one, ap, append-nil, append_assoc, ap₂, arith, cond, drop, encode_utf8_all, false, filter, get_or, inl, inr, length, length-append, length-drop, length-take, map, nat_le, nat_lt, refl, reverse, rules, slice_index, slice_set, subst, suc, sym, take, true, zero, ℕ, ◌%◌, ◌&&◌, ◌*◌, ◌++◌, ◌+◌, ◌-◌, ◌/◌, ◌<◌, ◌==◌, ◌||◌, ◌∙◌, ◌∷◌, ◌≡◌, ◌≤◌, ◌⊎◌}
pub use Rattle.std.proofs.lemmas.Bool.{agree_below_at, and_parts, cases_lt, eq-eqb, eqb-true, false_from_ne_true, lt-ltb, ne_eqb}
pub use Rattle.std.proofs.lemmas.Bool.Decides.{nat_tests}
pub use Rattle.std.proofs.lemmas.List.{drop-append-le, drop_all, drop_at, drop_more, get_or-map, get_or-set_other, get_or-set_same, get_or-take, length-map, length-set, length-take-le, map-append, nil_from_length, reverse-append, reverse-reverse, take-append-drop, take-append-le, take_all, take_at, take_more_set, take_rest}
pub use Rattle.std.proofs.lemmas.List.Elements.{filter-append, filter_map-append}
pub use Rattle.std.proofs.lemmas.Str.{IsUtf8-from_ascii, encodes-IsAscii, encodes-append, length-encode}
unfoldable pub use Rattle.std.specs.Char.{encode_utf8}
pub use Rattle.std.specs.List.{filter_map, list_all}
pub use Rattle.std.specs.Prelude.{IfSome, MatchOption, Ok, OnOk, Result, Vec, codes, if◌then◌else◌, is_none, is_some, not, option_map, slice_range, string_bytes, unwrap_or}
pub use Rattle.std.specs.Str.{IsAscii, IsUtf8, bytes_eq}
