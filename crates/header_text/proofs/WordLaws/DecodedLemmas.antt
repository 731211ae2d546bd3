-- The text of a value, word by word.
use Rattle.header_text.proofs.Words.{◌≡◌, ◌++◌, ℕ, Bool, true, false, List, refl, append_assoc, arith, if◌then◌else◌, WordAfter, Pieces, value_pieces, word_text, plain_text, text_between, later_words_text, words_text, decoded_value, word_first}

-- the text of words, which follow a word or are at the front
abbrev pub words_after : Bool → List WordAfter → List ℕ
words_after follows ws = if follows then later_words_text ws else words_text ws

pub decoded-start : (value : List ℕ) → words_after false (value_pieces value).words ++ plain_text
    (value_pieces value).rest
    ≡ decoded_value value
unfolding decoded_value
decoded-start value = refl

abbrev pub rest_text : Bool → Pieces → List ℕ
rest_text follows p = words_after follows p.words ++ plain_text p.rest

-- one more word
pub decoded-step : (follows : Bool) (w : WordAfter) (p : Pieces) (later old new newer : List ℕ) → p ≡ word_first w later
    → new ≡ old ++ (if follows then text_between w.between else plain_text w.between) → newer ≡ new ++ word_text w.word
    → newer ++ rest_text true (value_pieces later) ≡ old ++ rest_text follows p
decoded-step follows w p later old new newer e f g = grind (arith, append_assoc)

-- no more words
