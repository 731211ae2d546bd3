-- Words of exactly 128 bytes and of more, by computation. A letter of four bytes keeps these texts short. Here word
-- characters are the characters beyond ASCII.
use Rattle.mail_words.proofs.Imports.{◌≡◌, ℕ, Bool, true, false, List, [], ◌∷◌, ◌++◌, refl, leb, encode_utf8_all, replicate, is_joiner, is_word, words_after}

abbrev is_wide : ℕ → Bool
is_wide = leb 0x80

abbrev words_of : List ℕ → List (List ℕ)
words_of = words_after is_wide []

-- this many letters U+10428, of four bytes each
abbrev wide : ℕ → List ℕ
wide n = replicate n 0x10428

abbrev hyphen : List ℕ
hyphen = 0x2D ∷ []

-- words of 64 and 63 bytes with a hyphen between them
abbrev joined : List ℕ
joined = wide 16 ++ (hyphen ++ (wide 15 ++ 0x4E00 ∷ []))

abbrev joined_words : List (List ℕ)
joined_words = encode_utf8_all (wide 16) ∷ encode_utf8_all joined ∷ encode_utf8_all (wide 15 ++ 0x4E00 ∷ []) ∷ []

rows : (words_of (wide 32) ≡ encode_utf8_all (wide 32) ∷ [])
    -- 129 bytes, and 132
    × (is_word is_wide [] (0xE9 ∷ 0x4E00 ∷ wide 31) [] ≡ false)
    × (words_of (wide 33) ≡ [])
    -- letters of two bytes, and of one
    × (is_word is_wide [] (replicate 64 0xFC) [] ≡ true)
    × (is_word is_wide [] (replicate 65 0xFC) [] ≡ false)
    × (is_word (leb 0x61) [] (replicate 128 0x61) [] ≡ true)
    × (is_word (leb 0x61) [] (replicate 129 0x61) [] ≡ false)
    × (words_of joined ≡ joined_words)
    -- joiners at both ends don't count
    × (words_of (hyphen ++ (0x2E ∷ (joined ++ 0x5F ∷ []))) ≡ joined_words)
    -- a long word of 129 bytes is left out, but not its plain words
    × (words_of (wide 16 ++ (hyphen ++ wide 16)) ≡ encode_utf8_all (wide 16) ∷ encode_utf8_all (wide 16) ∷ [])
unfolding is_joiner is_word lib.Utf8.encode
rows = (refl, refl, refl, refl, refl, refl, refl, refl, refl, refl)
