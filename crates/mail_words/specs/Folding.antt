-- Default caseless folding, by which words are compared.
use Rattle.std.specs.Prelude.{ℕ, Bool, false, ◌&&◌, ◌==◌, List, [], ◌∷◌, chars, encode_utf8_all}
use Rattle.std.specs.Bool.{beq}
use Rattle.std.specs.Char.{len_utf8}
use Rattle.caseless.specs.Caseless.{default_case_fold}
use Rattle.ucd_case.specs.CaseFolding.{full_fold}
use Rattle.mail_words.specs.Words.{is_word_character, is_joiner}

-- the folding of a text (Unicode 3.13, toCasefold); two texts match if their foldings are equal (D144)
abbrev pub folding : List ℕ → List ℕ
folding text = encode_utf8_all (default_case_fold (chars text))

-- ---- characters that fold evenly

-- whether two characters have as many bytes, and are both word characters or neither, and both joiners or neither
abbrev pub are_alike : ℕ → ℕ → Bool
are_alike c d =
    len_utf8 c == len_utf8 d && beq (is_word_character c) (is_word_character d) && beq (is_joiner c) (is_joiner d)

-- whether these are one character, which is like c
abbrev pub is_one_like : ℕ → List ℕ → Bool
is_one_like c [] = false
is_one_like c (d ∷ []) = are_alike c d
is_one_like c (d ∷ e ∷ ds) = false

-- whether a character folds to one that is like it
abbrev pub folds_evenly : ℕ → Bool
folds_evenly c = is_one_like c (full_fold c)
