-- The names of std and of the definitions that proofs use, all from one place.
pub use Rattle.header_text.proofs.CutLemmas.{IsCut, IsCut-from, Lacks, Lacks-from, cut_at-is, cut_at-none, split_while-cut, split_while-free}
pub use Rattle.header_text.proofs.Fronts.{length-split_while, split_while-joined, take-split_while}
unfoldable pub use Rattle.header_text.specs.Base64.{base64_bytes, bytes_of_sextets, sextet}
pub use Rattle.header_text.specs.Blanks.{after_blanks, split_while, without_outer_blanks}
unfoldable pub use Rattle.header_text.specs.Blanks.{before_blanks}
unfoldable pub use Rattle.header_text.specs.Charsets.{charset_of, text_of}
pub use Rattle.header_text.specs.Cuts.{cut_at}
pub use Rattle.header_text.specs.Headers.{HeaderField, fields_size, lines_before_empty, most_in_header}
unfoldable pub use Rattle.header_text.specs.Headers.{fields_of}
pub use Rattle.header_text.specs.HeldLines.{HasLines, taken_of}
pub use Rattle.header_text.specs.Ids.{ids_of, ids_size}
pub use Rattle.header_text.specs.Stages.{has_empty}
unfoldable pub use Rattle.header_text.specs.Unfolding.{unfolded_body}
pub use Rattle.header_text.specs.declared.charset.Charset.{Charset}
pub use Rattle.header_text.specs.declared.charset.Charset.TheVariants.{Latin1, Unknown, Utf8}
pub use Rattle.header_text.specs.declared.header.Taken.TheVariants.{Ended, More}
pub use Rattle.mail_words.specs.declared.kind.TextKind.{TextKind}
pub use Rattle.mbox_cutter.proofs.FirstLines.{length_before_feed-le, length_before_feed-take, line_end-more, line_end-open, line_end-positive, line_end-short, line_end-whole, line_end-within}
pub use Rattle.mbox_cutter.specs.Lines.{length_before_feed}
unfoldable pub use Rattle.mbox_cutter.specs.Lines.{first_length, is_empty, line_end_of, lines}
unfoldable pub use Rattle.mbox_cutter.specs.Separators.{without_break}
pub use Rattle.mime_text.specs.Decoders.{still_decoded}
pub use Rattle.mime_text.specs.Feeding.{Comes, ComesAt, ComesAfterHeader, ComesEnding, ComesEndingAt, KnowsAt, KnowsFacts, NotesFacts, counted_texts, ending, given_after_delimiter, given_after_header, given_from, header_texts}
pub use Rattle.mime_text.specs.FieldTexts.{kind_of_field, text_of_body, texts_of_fields}
pub use Rattle.mime_text.specs.Frames.{AreNested, Nest, dash_dash, inside_out, kind_after, lead_to, place_after_delimiter, with_frame, scan}
unfoldable pub use Rattle.mime_text.specs.Frames.{dashes, delimiter_of}
pub use Rattle.mime_text.specs.Inside.Passing.{IsOver, PassedPairs, PassesPairs, Stopped}
pub use Rattle.mime_text.specs.Inside.TagSpans.{shown_span, span_end}
pub use Rattle.mime_text.specs.LeafReading.{body_pairs, pairs_of_bytes, pairs_of_lines, pairs_to_come}
pub use Rattle.mime_text.specs.LeafTexts.{texts_of_lines}
unfoldable pub use Rattle.mime_text.specs.LeafTexts.{leaf_texts}
pub use Rattle.mime_text.specs.MessageFacts.{IsSizedId, facts_of, has_letter, ids_of_fields, is_linking, is_status, own_id_of}
pub use Rattle.mime_text.specs.Names.{name_of, name_text, name_texts}
pub use Rattle.mime_text.specs.OpenTags.{blanked_tags, is_tag_open_after, is_tag_open_after_all, is_tag_open_after_line, line_text, texts_after}
pub use Rattle.mime_text.specs.Parameters.{AreParameters, Parameter, Piece, after_semicolon, first_named, is_parameter_name_byte, is_token_byte, none_left, parameters, parameters_after, parameters_within, piece_first, quoted_and_rest, value_and_rest}
unfoldable pub use Rattle.mime_text.specs.Parameters.{parameter, piece_of}
pub use Rattle.mime_text.specs.Parts.{Counted, Entity, Leaf, Part, are_blanks, body_lines, is_closing, is_left, parts, parts_by, parts_of_message, multipart_pieces, preamble_and_pieces}
unfoldable pub use Rattle.mime_text.specs.Parts.{is_delimiter}
pub use Rattle.mime_text.specs.Sinks.{Breaks, Broke, ComingPairs, Gave, Hands, Pair, TakesAll}
pub use Rattle.mime_text.specs.Stream.{InHeader, InLeaf, Skip, StreamPlace, after_header, counted_part, values_given, header_parts, place_after_hit, inner_step, or_else, own_hit, step_by, value}
pub use Rattle.mime_text.specs.Tags.{is_open, lines_without_tags, without_tags}
pub use Rattle.mime_text.specs.Texts.{part_texts}
unfoldable pub use Rattle.mime_text.specs.Texts.{texts_of_message}
pub use Rattle.mime_text.specs.Transfer.{decoded_bytes, ends_in}
unfoldable pub use Rattle.mime_text.specs.Transfer.{printable_bytes}
pub use Rattle.mime_text.specs.Types.{charset_in, shape_of, transfer_in}
unfoldable pub use Rattle.mime_text.specs.Types.{charset_of_value, shape_of_value, transfer_named}
pub use Rattle.mime_text.specs.declared.fault.SinkFault.{SinkFault}
pub use Rattle.mime_text.specs.declared.fault.TextFault.{TextFault}
pub use Rattle.mime_text.specs.declared.fault.TextFault.TheVariants.{Failed, OutOfMemory, Sink}
pub use Rattle.mime_text.specs.declared.leaf.line_texts.LineTexts.{LineTexts}
pub use Rattle.mime_text.specs.declared.leaf.transfer.TransferEncoding.TheVariants.{Base64, Identity, QuotedPrintable}
pub use Rattle.mime_text.specs.declared.parts.delimiter.Delimiter.{Delimiter}
pub use Rattle.mime_text.specs.declared.parts.frame.Frame.{Frame}
pub use Rattle.mime_text.specs.declared.parts.part_reader.PartReader.{PartReader}
pub use Rattle.mime_text.specs.declared.parts.part_reader.State.{State}
pub use Rattle.mime_text.specs.declared.parts.shape.DefaultType.{DefaultType}
pub use Rattle.mime_text.specs.declared.parts.shape.DefaultType.TheVariants.{MessageRfc822, TextPlain}
pub use Rattle.mime_text.specs.declared.parts.shape.Shape.{Shape}
pub use Rattle.mime_text.specs.declared.parts.shape.Shape.TheVariants.{Message, Multipart, Other, Text}
pub use Rattle.std.proofs.Common.{All, Bool, Bor, IfSome, IsUtf8, List, None, Option, Some, [], add-one, ap, append-nil, append_assoc, arith, chars, cond, drop, encode_utf8, encode_utf8_all, eq-eqb, false, get_or, if◌then◌else◌, length, length-append, map, min, refl, replicate, reverse, rules, string_bytes, subst, suc, sym, take, true, zero, ℕ, ◌++◌, ◌+◌, ◌-◌, ◌<◌, ◌==◌, ◌||◌, ◌∙◌, ◌∷◌, ◌≡◌, ◌≤◌}
pub use Rattle.std.proofs.lemmas.Bool.{eqb-true, false_from_ne_true}
pub use Rattle.std.proofs.lemmas.Bool.Decides.{nat_tests}
pub use Rattle.std.proofs.lemmas.Grind.{flat_map-append}
pub use Rattle.std.proofs.lemmas.List.{drop-append-le, drop-drop, drop_all, drop_at, get_or_at, length-drop, length-replicate, length-take, length_push, replicate-append-replicate, reverse-append, take-append-drop, take-append-le, take-replicate, take_all, take_at}
pub use Rattle.std.proofs.lemmas.List.Elements.{All-append, All-map}
pub use Rattle.std.proofs.lemmas.Str.{IsCharBoundary-after_ascii, IsCharBoundary-from_ascii, IsUtf8-drop, IsUtf8-from_ascii, IsUtf8-take, chars-IsAscii, chars-append, encode_ascii, encodes-append, encodes-chars, length-le-encodes}
pub use Rattle.std.specs.Global.{Global}
pub use Rattle.std.specs.List.{AllByRecursion, concat, find, list_any}
pub use Rattle.std.specs.Option.{option_map_or, option_to_list}
pub use Rattle.std.specs.Prelude.{Err, IfErr, MatchOption, Ok, OnOk, Result, Vec, codes, flat_map, not, option_map, slice_get, unwrap_or, ◌≢◌}
pub use Rattle.std.specs.Result.{IsErrAnd}
pub use Rattle.std.specs.Str.{IsAscii, bytes_eq}
