-- The words of a text: maximal runs of word characters, and longer runs in which joiners come between them.
use Rattle.std.specs.Prelude.{ℕ, ◌≤◌, Bool, true, false, not, ◌&&◌, ◌||◌, ◌==◌, nat_le, List, [], ◌∷◌, ◌++◌, length}
use Rattle.std.specs.Prelude.{map, reverse, filter, slice_range, chars, encode_utf8_all, codes}
use Rattle.std.specs.List.{list_any, list_all}
use Rattle.contract_words.specs.Ranges.{ranges_from, passes_at}
use Rattle.unicode.specs.Binary.{is_alphabetic}
use Rattle.unicode.specs.GeneralCategory.{general_category, general_category_eq}
use Rattle.unicode.specs.declared.properties.GeneralCategory.TheVariants.{NonspacingMark, SpacingMark, DecimalNumber}

-- whether a character is a word character: Alphabetic, or of category Mn, Mc or Nd (Unicode 4.5 and 4.10)
unfoldable pub is_word_character : ℕ → Bool
is_word_character c =
    is_alphabetic c || list_any (general_category_eq (general_category c))
    (NonspacingMark ∷ SpacingMark ∷ DecimalNumber ∷ [])

-- whether a character joins plain words to a long one: `-`, `_`, `.`, `+` or `@`
unfoldable pub is_joiner : ℕ → Bool
is_joiner c = list_any (λ joiner. c == joiner) (codes "-_.+@")

-- the most bytes that a word has
abbrev pub word_limit : ℕ
word_limit = 128

-- the bytes of a range of characters, given by its start and its end
abbrev pub range_bytes : List ℕ → ℕ × ℕ → List ℕ
range_bytes cs r = encode_utf8_all (slice_range cs r.0 r.1)

-- ---- which ranges are words

-- whether there is a first character and it passes
abbrev pub begins : (ℕ → Bool) → List ℕ → Bool
begins p [] = false
begins p (c ∷ cs) = p c

-- the characters after the joiners at the front
abbrev pub after_joiners : List ℕ → List ℕ
after_joiners [] = []
after_joiners (c ∷ cs) = elim (is_joiner c) [ true ↦ after_joiners cs | false ↦ c ∷ cs ]

-- `in_word` says which characters are word characters. Each test of a range has the characters before it, the nearest
-- first, those inside it, and those after it.
module _ (in_word : ℕ → Bool) where
  -- whether a range is a maximal run of word characters, with at least one
  abbrev pub is_plain_word : List ℕ → List ℕ → List ℕ → Bool
  is_plain_word before inside after =
      begins in_word inside && list_all in_word inside && not (begins in_word before) && not (begins in_word after)

  -- whether a range is a maximal run of word characters and joiners, without the joiners at both its ends, in which a
  -- joiner is left. It begins and ends with a word character. Outside, no word character is next to it, and none comes
  -- after joiners alone.
  abbrev pub is_long_word : List ℕ → List ℕ → List ℕ → Bool
  is_long_word before inside after =
      begins in_word inside && begins in_word (reverse inside)
      && list_all (λ c. in_word c || is_joiner c) inside && list_any is_joiner inside
      && not (begins in_word (after_joiners before)) && not (begins in_word (after_joiners after))

  -- whether a range is a plain or a long word of at most 128 bytes
  unfoldable pub is_word : List ℕ → List ℕ → List ℕ → Bool
  is_word before inside after =
      (is_plain_word before inside after || is_long_word before inside after) && nat_le
      (length (encode_utf8_all inside)) word_limit

  -- whether a range of these characters, given by its start and its end, is such a word
  abbrev pub is_word_range : List ℕ → ℕ × ℕ → Bool
  is_word_range = passes_at is_word

  -- the ranges that are words and begin in the rest of a text, after its front
  abbrev pub word_ranges_after : List ℕ → List ℕ → List (ℕ × ℕ)
  word_ranges_after front rest = filter (is_word_range (front ++ rest)) (ranges_from (length front) rest)

  -- the words that begin in the rest of a text, after its front
  abbrev pub words_after : List ℕ → List ℕ → List (List ℕ)
  words_after front rest = map (range_bytes (front ++ rest)) (word_ranges_after front rest)

-- the ranges of a text's characters that are words, in the order of where they begin, the plain word before the long
-- one
abbrev pub word_ranges : List ℕ → List (ℕ × ℕ)
word_ranges text = word_ranges_after is_word_character [] (chars text)

-- the words of a text, in the same order
unfoldable pub words : List ℕ → List (List ℕ)
words text = map (range_bytes (chars text)) (word_ranges text)

-- whether the whole text is one word
unfoldable pub is_one_word : List ℕ → Bool
is_one_word text = is_word is_word_character [] (chars text) []

-- whether a text can be part of a word: 1 to 128 bytes of word characters and joiners
unfoldable pub is_part_of_word : List ℕ → Bool
is_part_of_word text =
    nat_le 1 (length text) && nat_le (length text) word_limit && list_all (λ c. is_word_character c || is_joiner c)
    (chars text)

-- ---- facts

-- a word has 1 to 128 bytes
abbrev pub HasWordLength : List ℕ → Type 0
HasWordLength word = (1 ≤ length word) × (length word ≤ word_limit)
