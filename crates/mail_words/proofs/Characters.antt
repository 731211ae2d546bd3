-- The word characters of ASCII; joiners aren't word characters; joiners can be found among bytes.
use Rattle.mail_words.proofs.Imports.{◌≡◌, ℕ, suc, ◌-◌, ◌<◌, ◌≤◌, Bool, true, false, not, ◌&&◌, nat_lt, List, [], ◌∷◌, get_or, encode_utf8, encode_utf8_all, IsUtf8, inl, inr, refl, sym, ap, ◌∙◌, arith, and-true, cases_lt, nat_tests, list_all-append, list_all_at, encode_ascii, encodes-chars, char_from_byte, length-encode, len_utf8_bounds, beq, is_ascii_alphanumeric, list_all, ucd_category, ucd_derived, same_from_beq, all_below, all_below-at, is_word_character, is_joiner, is_piece, begins, length, length-append, get_or_append_left}
use Rattle.std.proofs.Common.{chars, append-nil}
use Rattle.std.specs.Prelude.{◌==◌}

pub is_word_character-ascii : (c : ℕ) → c < 128 → is_word_character c ≡ is_ascii_alphanumeric c
unfolding all_below ucd_derived ucd_category is_word_character
is_word_character-ascii c below =
    same_from_beq (is_word_character c) (is_ascii_alphanumeric c)
    (all_below-at (λ n. beq (is_word_character n) (is_ascii_alphanumeric n)) 128 c refl below)

pub joiner_below : (c : ℕ) → is_joiner c ≡ true → c < 128
unfolding is_joiner
joiner_below c joins = grind (arith, nat_tests)

not_both : (joins of_word : Bool) → not (joins && of_word) ≡ true → joins ≡ true → of_word ≡ false
not_both joins of_word h h2 = grind arith

pub joiner_is_no_word_character : (c : ℕ) → is_joiner c ≡ true → is_word_character c ≡ false
unfolding all_below ucd_derived ucd_category is_word_character is_joiner
joiner_is_no_word_character c joins =
    not_both (is_joiner c) (is_word_character c)
    (all_below-at (λ n. not (is_joiner n && is_word_character n)) 128 c refl (joiner_below c joins)) joins

pub word_character_is_no_joiner : (c : ℕ) → is_word_character c ≡ true → is_joiner c ≡ false
word_character_is_no_joiner c of_word = grind (arith, joiner_is_no_word_character)

-- for a byte that isn't a word character by itself, the tests of a joiner and of a part of a run agree
pub piece_byte : (b : ℕ) → (nat_lt b 128 && is_word_character b) ≡ false → is_joiner b ≡ (nat_lt b 128 && is_piece b)
piece_byte b other = grind (arith, joiner_below)

-- ---- the joiners among the bytes of a text

no_joiner_from : (c : ℕ) → 128 ≤ c → is_joiner c ≡ false
no_joiner_from c beyond = grind (arith, joiner_below)

no_joiner_first : (c : ℕ) → 128 ≤ c → is_joiner (get_or (encode_utf8 c) 0 0) ≡ false
no_joiner_first c beyond = go (is_joiner (get_or (encode_utf8 c) 0 0)) refl
  where
    go : (t : Bool) → is_joiner (get_or (encode_utf8 c) 0 0) ≡ t → is_joiner (get_or (encode_utf8 c) 0 0) ≡ false
    go true joins =
        let below = joiner_below (get_or (encode_utf8 c) 0 0) joins in
        let same = char_from_byte (encode_utf8 c) [] c (sym (append-nil (encode_utf8 c))) below
        (omega (arith, length-encode c, (len_utf8_bounds c).0)) in
        absurd (omega (arith, below, same))
    go false apart = apart

joiners-encode : (c : ℕ) → list_all is_joiner (encode_utf8 c) ≡ is_joiner c
joiners-encode c =
    elim (cases_lt c 128) [
      | inl ascii ↦ ap (list_all is_joiner) (encode_ascii c ascii) ∙ and-true (is_joiner c)
      | inr beyond ↦
          list_all_at is_joiner (encode_utf8 c) 0 0 (omega (arith, length-encode c, (len_utf8_bounds c).0))
          (no_joiner_first c beyond) ∙ sym (no_joiner_from c beyond)
    ]

joiners-encodes : (cs : List ℕ) → list_all is_joiner (encode_utf8_all cs) ≡ list_all is_joiner cs
joiners-encodes [] = refl
joiners-encodes (c ∷ cs) = grind (
  arith,
  list_all-append,
  encode_utf8,
  encode_utf8_all,
  joiners-encode,
  joiners-encodes cs,
)

-- the bytes are joiners alone if the characters are
pub joiners-bytes : (text : List ℕ) → IsUtf8 text → list_all is_joiner text ≡ list_all is_joiner (chars text)
joiners-bytes text utf8 = cc (encodes-chars text utf8, joiners-encodes (chars text))

-- the bytes are joiners alone if nothing is before the joiners at the end
joiners-from : (bytes : List ℕ) → ((k : ℕ) → k < length bytes → is_joiner (get_or bytes k 0) ≡ true)
    → list_all is_joiner bytes ≡ true
joiners-from [] h = refl
joiners-from (b ∷ bs) h = (λ k. h 0 (omega arith) k && joiners-from bs (λ i below. h (suc i) (omega (arith, below))) k)

pub none-before : (bytes : List ℕ) (n : ℕ) → n ≤ length bytes
    → ((k : ℕ) → n ≤ k → k < length bytes → is_joiner (get_or bytes k 0) ≡ true)
    → (0 < n → is_joiner (get_or bytes (n - 1) 0) ≡ false)
    → (n == 0) ≡ list_all is_joiner bytes
none-before bytes n h h2 h3 = grind (arith, joiners-from, list_all_at)

-- the first character is a joiner if the first byte is
pub joiner-first : (text : List ℕ) → IsUtf8 text → (nat_lt 0 (length text) && is_joiner (get_or text 0 0))
    ≡ begins is_joiner (chars text)
joiner-first text utf8 = cc (encodes-chars text utf8, go (chars text))
  where
    byte : (c : ℕ) → is_joiner (get_or (encode_utf8 c) 0 0) ≡ is_joiner c
    byte c = grind (arith, encode_ascii, no_joiner_first, no_joiner_from)

    go : (cs : List ℕ) → (nat_lt 0 (length (encode_utf8_all cs)) && is_joiner (get_or (encode_utf8_all cs) 0 0))
        ≡ begins is_joiner cs
    go [] = refl
    go (c ∷ cs) = grind (arith, byte c, length-append, get_or_append_left, length-encode c)
