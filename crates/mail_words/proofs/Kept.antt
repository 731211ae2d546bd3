-- Words that are short enough to be kept, and words that are too long.
use Rattle.mail_words.proofs.Imports.{◌≡◌, ℕ, ◌+◌, ◌≤◌, ◌<◌, Bool, true, false, List, [], ◌∷◌, ◌++◌, length, take, drop, encode_utf8_all, IsUtf8, ◌∙◌, arith, append_assoc, length-append, le-leb, nat_tests, encodes-append, is_word_character, begins, word_limit, front, after_front, joined_front, within, joined_on, long_at, words_left}
use Rattle.std.proofs.Common.{chars}
use Rattle.mail_words.proofs.RunLemmas.{front-after}
use Rattle.mail_words.proofs.OneWord.{joined_front-prefix}
use Rattle.mail_words.proofs.Reading.{words_left-word}
use Rattle.mail_words.proofs.Seams.{IsSeam, seam, front_seam, chars_back}

pub within-short : (cs word : List ℕ) → word ≡ encode_utf8_all cs → length word ≤ word_limit → within cs ≡ word ∷ []
within-short cs word is short = grind (arith, encode_utf8_all, le-leb)

pub within-long : (cs : List ℕ) → word_limit < length (encode_utf8_all cs) → within cs ≡ []
within-long cs long = grind (arith, nat_tests)

pub joined_on-long : (plain more : List ℕ) → word_limit < length (encode_utf8_all (plain ++ more))
    → joined_on plain more ≡ []
joined_on-long plain more h = grind (arith, within-long)

-- no long word is kept if its plain word is too long
pub long_at-long : (in_run : Bool) (cs : List ℕ) → word_limit < length (encode_utf8_all (front is_word_character cs))
    → long_at in_run cs ≡ []
long_at-long in_run cs h = grind (arith, joined_on-long, encodes-append, length-append, encode_utf8_all)

-- the plain word at the front with what continues its run: the long word, if there is one
abbrev pub long_front : List ℕ → List ℕ
long_front cs = front is_word_character cs ++ joined_front (after_front is_word_character cs)

pub length-long_front : (cs : List ℕ) → length (encode_utf8_all (long_front cs))
    ≡ length (encode_utf8_all (front is_word_character cs)) + length
    (encode_utf8_all (joined_front (after_front is_word_character cs)))
length-long_front cs = grind (arith, encodes-append, length-append, encode_utf8_all)

pub long_seam : (text : List ℕ) → IsUtf8 text → (rest : List ℕ) × IsSeam text (long_front (chars text)) rest
long_seam text utf8 =
    let cs : List ℕ = chars text in
    let parts = joined_front-prefix (after_front is_word_character cs) in (
      parts.0,
      seam text (long_front cs) parts.0 utf8
          (cc (
            front-after is_word_character cs,
            parts.1,
            append_assoc (front is_word_character cs) (joined_front (after_front is_word_character cs)) parts.0,
          )),
    )

-- the number of bytes that continue the plain word's run, counted in the text after it
pub joined_is : (text part : List ℕ) (plain joined : ℕ) → IsUtf8 text → plain
    ≡ length (encode_utf8_all (front is_word_character (chars text))) → part ≡ drop plain text
    → joined ≡ length (encode_utf8_all (joined_front (chars part))) → joined
    ≡ length (encode_utf8_all (joined_front (after_front is_word_character (chars text))))
joined_is text part plain joined utf8 place is run =
    cc (run, chars_back text _ _ plain part (front_seam is_word_character text utf8) place is)

-- a long word that is short enough is a front of the text
pub long_at-short : (text word : List ℕ) (len : ℕ) → IsUtf8 text → len
    ≡ length (encode_utf8_all (long_front (chars text))) → len ≤ word_limit
    → 0 < length (encode_utf8_all (joined_front (after_front is_word_character (chars text)))) → word ≡ take len text
    → long_at false (chars text) ≡ word ∷ []
long_at-short text word len utf8 place short some is =
    let cs : List ℕ = chars text in
    let cut = long_seam text utf8 in
    grind arith

-- ---- the words left at a word character

pub words_left-kept : (in_run : Bool) (cs rest plain : List ℕ) (longs : List (List ℕ)) → begins is_word_character cs
    ≡ true → plain ≡ encode_utf8_all (front is_word_character cs)
    → length plain ≤ word_limit → longs ≡ long_at in_run cs → rest ≡ after_front is_word_character cs
    → words_left in_run cs
    ≡ plain ∷ (longs ++ words_left true rest)
words_left-kept in_run cs rest plain longs begun is short long after = grind (arith, words_left-word, within-short)

pub words_left-dropped : (in_run : Bool) (cs rest plain : List ℕ) → begins is_word_character cs ≡ true → plain
    ≡ encode_utf8_all (front is_word_character cs)
    → word_limit < length plain → rest ≡ after_front is_word_character cs → words_left in_run cs ≡ words_left true rest
words_left-dropped in_run cs rest plain begun is long after =
    grind (arith, encode_utf8_all, words_left-word, within-long, long_at-long)
