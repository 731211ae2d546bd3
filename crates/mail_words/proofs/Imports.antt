-- The names of std and of the definitions that the proofs use, in one place.
pub use Rattle.mail_words.specs.Folding.{folding}
pub use Rattle.mail_words.specs.Inside.Runs.{after_front, front, HasGapAndWord, is_ascii_other, is_ascii_word, is_beyond_ascii, is_no_ascii_word, is_other, is_piece, joined_front, joined_on, joined_to, long_at, read_front, within}
unfoldable pub use Rattle.mail_words.specs.Inside.Runs.{words_left}
pub use Rattle.mail_words.specs.Words.{HasWordLength, after_joiners, begins, is_word_range, word_limit, word_ranges, words_after}
unfoldable pub use Rattle.mail_words.specs.Words.{
  is_joiner,
  is_one_word,
  is_part_of_word,
  is_word,
  is_word_character,
  words,
}
pub use Rattle.mail_words.specs.declared.ascii.TheConstants.{CLASSES}
pub use Rattle.std.proofs.Common.{All, Bool, Fits, IsAscii, IsUtf8, List, None, Some, [], ap, append_assoc, ap₂, arith, bit_and, bit_or, cond, drop, drop-cons, encode_utf8, encode_utf8_all, eqb, false, get_or, inl, inr, leb, ltb, length, length-append, lit<, nat_le, nat_lt, not, refl, reverse, slice_index, string_bytes, subst, suc, sym, take, true, w8, zero, ℕ, ◌%◌, ◌&&◌, ◌*◌, ◌++◌, ◌+◌, ◌-◌, ◌<◌, ◌^◌, ◌||◌, ◌∙◌, ◌∷◌, ◌≡◌, ◌≤◌}
pub use Rattle.std.proofs.Math.Bool.{and-false, and-true, or-true}
pub use Rattle.std.proofs.lemmas.Bool.{agree_below, agree_below_at, and_parts, cases_lt, eq-eqb, eqb-false, eqb-true, le-leb, ltb-true}
pub use Rattle.std.proofs.lemmas.Bool.Decides.{nat_tests}
pub use Rattle.std.proofs.lemmas.List.{get_or-append-add, get_or-append_right, get_or_append_left, length-map, map-append, nil_from_length, reverse-append}
pub use Rattle.std.proofs.lemmas.List.Folds.{list_all-append, list_all_at, list_any-append}
pub use Rattle.std.proofs.lemmas.Simd.{first_set_mask_l, get_or-chunk, length-chunk, map-map, mask_l-mod, splat_is_map, zip2_of_maps, zip2_splat}
pub use Rattle.std.proofs.lemmas.Str.{Chars-gives, IsCharBoundary-at_seam, IsCharBoundary-from_drop, IsUtf8-past_char, char_from_byte, chars-IsAscii, chars-encodes, chars-nil, chars_past_char, encode_ascii, encodes-IsAscii, encodes-append, encodes-chars, inside_one, len_utf8_ascii, len_utf8_bounds, length-encode, length-le-encodes, scalars-chars}
pub use Rattle.std.proofs.lemmas.Str.Ascii.{IsAscii-map, lowercase_ascii}
pub use Rattle.std.specs.Bool.{beq}
pub use Rattle.std.specs.Char.{is_ascii, is_ascii_alphanumeric, len_utf8, to_ascii_lowercase}
pub use Rattle.std.specs.List.{list_all, list_any, prefix_len}
pub use Rattle.std.specs.Prelude.{codes, replicate}
pub use Rattle.std.specs.Str.{IsCharBoundary}
pub use Rattle.std.specs.Str.Iter.{chars_rest, chars_steps}
unfoldable pub use Rattle.unicode.proofs.CategoryComputing.{ucd_category}
unfoldable pub use Rattle.unicode.proofs.DerivedComputing.{ucd_derived}
pub use Rattle.unicode.proofs.Facts.{same_from_beq}
pub use Rattle.unicode.proofs.TrieCheck.{all_below-at}
unfoldable pub use Rattle.unicode.proofs.TrieCheck.{all_below}
