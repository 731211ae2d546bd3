-- What the iterator over words looks for at the front of the rest of a text.
use Rattle.std.specs.Prelude.{ℕ, ◌+◌, ◌*◌, ◌%◌, ◌<◌, ◌≤◌, ◌≡◌, Bool, true, false, not, ◌&&◌, ◌||◌, List, [], ◌∷◌, ◌++◌}
use Rattle.std.specs.Prelude.{length}
use Rattle.std.specs.Prelude.{slice_index, nat_le, nat_lt, codes, encode_utf8_all, if◌then◌else◌}
use Rattle.mail_words.specs.Words.{is_word_character, is_joiner, word_limit, words_after}

-- the characters at the front that pass
abbrev pub front : (ℕ → Bool) → List ℕ → List ℕ
front p [] = []
front p (c ∷ cs) = elim (p c) [ true ↦ c ∷ front p cs | false ↦ [] ]

-- the characters after those at the front that pass
abbrev pub after_front : (ℕ → Bool) → List ℕ → List ℕ
after_front p [] = []
after_front p (c ∷ cs) = elim (p c) [ true ↦ after_front p cs | false ↦ c ∷ cs ]

-- whether a character isn't a word character
abbrev pub is_other : ℕ → Bool
is_other c = not (is_word_character c)

-- whether a byte is a word character by itself
abbrev pub is_ascii_word : ℕ → Bool
is_ascii_word b = nat_lt b 128 && is_word_character b

-- whether a byte isn't a word character by itself
abbrev pub is_no_ascii_word : ℕ → Bool
is_no_ascii_word b = not (is_ascii_word b)

-- whether a byte isn't ASCII
abbrev pub is_beyond_ascii : ℕ → Bool
is_beyond_ascii b = nat_le 128 b

-- whether a byte is a character by itself, but not a word character
abbrev pub is_ascii_other : ℕ → Bool
is_ascii_other b = nat_lt b 128 && is_other b

-- the bytes begin with a gap and a word of these lengths, and with a byte that ends the word, all ASCII and within the
-- first sixteen bytes
pub record HasGapAndWord (bytes : List ℕ) (gap word : ℕ) : Type 0 where
  pub short : gap + word < 16
  pub within : gap + word < length bytes
  pub some : 0 < word
  pub in_gap : (k : ℕ) → k < gap → is_ascii_other (slice_index bytes k) ≡ true
  pub in_word : (k : ℕ) → k < word → is_ascii_word (slice_index bytes (gap + k)) ≡ true
  pub end : is_ascii_other (slice_index bytes (gap + word)) ≡ true

-- whether a character is a word character or a joiner
abbrev pub is_piece : ℕ → Bool
is_piece c = is_word_character c || is_joiner c

-- a joiner before characters; nothing if there are none
abbrev pub joined_to : ℕ → List ℕ → List ℕ
joined_to joiner [] = []
joined_to joiner (c ∷ cs) = joiner ∷ c ∷ cs

-- the run of word characters and joiners at the front, without the joiners at its end
abbrev pub joined_front : List ℕ → List ℕ
joined_front [] = []
joined_front (c ∷ cs) = elim (is_word_character c) [
  | true ↦ c ∷ joined_front cs
  | false ↦ elim (is_joiner c) [ true ↦ joined_to c (joined_front cs) | false ↦ [] ]
]

-- characters that can be before the rest: a run that it can continue, or nothing
abbrev pub read_front : Bool → List ℕ
read_front true = codes "a-"
read_front false = []

-- the words that begin in the rest
unfoldable pub words_left : Bool → List ℕ → List (List ℕ)
words_left in_run rest = words_after is_word_character (read_front in_run) rest

-- the word of these characters, unless it has more than 128 bytes
abbrev pub within : List ℕ → List (List ℕ)
within cs = if nat_le (length (encode_utf8_all cs)) word_limit then encode_utf8_all cs ∷ [] else []

-- the long word of a plain word and the characters that continue its run, if there are any, unless it is too long
abbrev pub joined_on : List ℕ → List ℕ → List (List ℕ)
joined_on plain [] = []
joined_on plain (c ∷ cs) = within (plain ++ c ∷ cs)

-- the long word that begins at the front of these characters, unless its run began earlier or it is too long
abbrev pub long_at : Bool → List ℕ → List (List ℕ)
long_at true cs = []
long_at false cs = joined_on (front is_word_character cs) (joined_front (after_front is_word_character cs))

-- ---- characters of two bytes

-- the number of the character that has these two bytes
abbrev pub pair_code : ℕ → ℕ → ℕ
pair_code first second = first % 32 * 64 + second % 64

-- at this place is the first byte of two of a character
pub record IsPairAt (bytes : List ℕ) (at c : ℕ) : Type 0 where
  pub within : at + 1 < length bytes
  pub from : 0xC0 ≤ slice_index bytes at
  pub below : slice_index bytes at < 0xE0
  pub code : c ≡ pair_code (slice_index bytes at) (slice_index bytes (at + 1))
