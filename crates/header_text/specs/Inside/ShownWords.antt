-- The encoded words of the code, as contracts see them.
use Rattle.std.specs.Prelude.{ℕ, List, [], ◌∷◌}
use Rattle.header_text.specs.EncodedWords.{EncodedWord, WordAfter, Pieces, value_pieces}
use Rattle.header_text.specs.declared.encoded_word.EncodedWord.{EncodedWord as WordInBytes}
use Rattle.header_text.specs.declared.encoded_word.Found.{Found}

-- an encoded word, as contracts see it
abbrev pub shown_word : WordInBytes → EncodedWord
shown_word w = record { charset = w.charset.now; encoding = w.encoding; text = w.text.now }

-- an encoded word that was found and the text before it, as contracts see them
abbrev pub shown_found : Found → WordAfter
shown_found f = record { between = f.between.now; word = shown_word f.word }

-- the pieces of a value without encoded words
abbrev pub no_word : List ℕ → Pieces
no_word value = record { words = []; rest = value }

-- the pieces of a value that has this word first, and `later` after it
abbrev pub word_first : WordAfter → List ℕ → Pieces
word_first w later = record { words = w ∷ (value_pieces later).words; rest = (value_pieces later).rest }
