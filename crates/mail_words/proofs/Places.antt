-- The words of a text, place by place. The words that begin at a place depend on the characters before it, the nearest
-- first, and on those from it on.
use Rattle.mail_words.proofs.Imports.{◌≡◌, ℕ, List, reverse, encode_utf8_all, is_word_character, is_word, words_after}
use Rattle.contract_words.proofs.RangePlaces.{if_passes, seen_on, seen_from, seen_after-places}

-- the bytes of the range in a list, if it is a word; otherwise the empty list
abbrev pub if_word : List ℕ → List ℕ → List ℕ → List (List ℕ)
if_word = if_passes (is_word is_word_character) encode_utf8_all

-- the words that begin with these characters and end in the rest
abbrev pub words_on : List ℕ → List ℕ → List ℕ → List (List ℕ)
words_on = seen_on (is_word is_word_character) encode_utf8_all

-- the words that begin in the rest
abbrev pub words_from : List ℕ → List ℕ → List (List ℕ)
words_from = seen_from (is_word is_word_character) encode_utf8_all

pub words_after-places : (front rest : List ℕ) → words_after is_word_character front rest
    ≡ words_from (reverse front) rest
words_after-places = seen_after-places (is_word is_word_character) encode_utf8_all
