-- Each word has 1 to 128 bytes, because the test of a word has these limits.
use Rattle.mail_words.proofs.Imports.{◌≡◌, ℕ, ◌≤◌, true, false, List, [], ◌∷◌, ◌++◌, All, length, encode_utf8_all, nat_le, refl, arith, and_parts, length-le-encodes, is_word_character, begins, is_word, word_limit, words, HasWordLength, words_left}
use Rattle.std.proofs.Common.{chars}
use Rattle.std.proofs.lemmas.List.Elements.{All-append}
use Rattle.mail_words.proofs.Places.{if_word, words_on, words_from, words_after-places}
use Rattle.mail_words.proofs.WordTests.{none_begins}

all-nil : All HasWordLength []
all-nil k d below = absurd (omega (arith, below))

begun_length : (cs : List ℕ) → begins is_word_character cs ≡ true → 1 ≤ length (encode_utf8_all cs)
begun_length [] e = cc
begun_length (c ∷ cs) e = omega (arith, length-le-encodes (c ∷ cs))

short_of_word : (before inside after : List ℕ) → is_word is_word_character before inside after ≡ true
    → nat_le (length (encode_utf8_all inside)) word_limit ≡ true
unfolding is_word
short_of_word before inside after e = grind (arith, and_parts)

all-if_word : (before inside after : List ℕ) → All HasWordLength (if_word before inside after)
all-if_word before inside after = grind (arith, none_begins, begun_length, short_of_word)

all-words_on : (before inside rest : List ℕ) → All HasWordLength (words_on before inside rest)
all-words_on before inside [] = all-nil
all-words_on before inside (c ∷ cs) =
    All-append HasWordLength (if_word before (inside ++ c ∷ []) cs) (words_on before (inside ++ c ∷ []) cs)
    (all-if_word before (inside ++ c ∷ []) cs) (all-words_on before (inside ++ c ∷ []) cs)

all-words_from : (before cs : List ℕ) → All HasWordLength (words_from before cs)
all-words_from before [] = all-nil
all-words_from before (c ∷ cs) =
    All-append HasWordLength (words_on before [] (c ∷ cs)) (words_from (c ∷ before) cs)
    (all-words_on before [] (c ∷ cs)) (all-words_from (c ∷ before) cs)

-- at first, the words left are the words of the text
pub words_left-whole : (text : List ℕ) → words_left false (chars text) ≡ words text
unfolding words words_left
words_left-whole text = refl

pub all-words : (text : List ℕ) → All HasWordLength (words text)
unfolding words
all-words text = rw (words_after-places [] (chars text)) (all-words_from [] (chars text))
