-- If each character of a text folds evenly, the words of its folding are the foldings of its words.
use lib.Utf8.{scalar}
use Rattle.mail_words.proofs.Imports.{◌≡◌, ◌<◌, ℕ, Bool, true, cond, ◌&&◌, ◌||◌, List, [], ◌∷◌, ◌++◌, reverse, length, encode_utf8, encode_utf8_all, IsUtf8, refl, sym, ap₂, ◌∙◌, arith, and_parts, length-append, length-encode, len_utf8, list_all-append, map-append, reverse-append, chars-encodes, scalars-chars, list_all, list_any, is_piece, folding, is_word_character, is_joiner, begins, after_joiners, is_word, words}
use Rattle.std.proofs.Common.{map, chars}
use Rattle.std.proofs.Math.Utf8.{scalars}
use Rattle.caseless.specs.Caseless.{default_case_fold}
use Rattle.caseless.proofs.CaselessLemmas.{default_case_fold-nil, default_case_fold-cons}
use Rattle.ucd_case.specs.CaseFolding.{full_folding, full_fold, or_itself}
use Rattle.ucd_case.proofs.CaseFoldingLemmas.{full_folding_stepped}
use Rattle.unicode.proofs.RangedFacts.{values_ok, Stepped-at_values}
use Rattle.unicode.proofs.TableComputing.{tables}
use Rattle.mail_words.specs.Folding.{are_alike, is_one_like, folds_evenly}
use Rattle.mail_words.specs.Inside.Folds.{keeps_itself}
use Rattle.mail_words.proofs.Places.{if_word, words_on, words_from, words_after-places}

-- ---- characters

-- the first of the characters; c if there is none
abbrev first_or : ℕ → List ℕ → ℕ
first_or c [] = c
first_or c (d ∷ ds) = d

-- what a character folds to if it folds evenly; otherwise the character
abbrev low_one : ℕ → ℕ
low_one c = cond (folds_evenly c) (first_or c (full_fold c)) c

abbrev low : List ℕ → List ℕ
low cs = map low_one cs

-- what the test of two characters says
record Alike (c d : ℕ) : Type 0 where
  bytes : len_utf8 c ≡ len_utf8 d
  word : is_word_character c ≡ is_word_character d
  joiner : is_joiner c ≡ is_joiner d

alike : (c d : ℕ) → are_alike c d ≡ true → Alike c d
alike c d e =
    grind (arith, and_parts)

alike-self : (c : ℕ) → Alike c c
alike-self c = grind arith

alike-first : (c : ℕ) (ds : List ℕ) → is_one_like c ds ≡ true → Alike c (first_or c ds)
alike-first c ds h = grind (arith, alike)

alike-low : (c : ℕ) → Alike c (low_one c)
alike-low c = grind (arith, alike-first, alike-self)

word-low : (c : ℕ) → is_word_character (low_one c) ≡ is_word_character c
word-low c = sym (alike-low c).word

joiner-low : (c : ℕ) → is_joiner (low_one c) ≡ is_joiner c
joiner-low c = sym (alike-low c).joiner

piece-low : (c : ℕ) → is_piece (low_one c) ≡ is_piece c
piece-low c = ap₂ ◌||◌ (word-low c) (joiner-low c)

pub even-kept : (c : ℕ) → keeps_itself c ≡ true → folds_evenly c ≡ true
even-kept c h =
    let few : length (full_folding c) < 1 = grind arith in
    grind arith

-- all that characters fold to are characters
all_scalar : (c : ℕ) → scalars (full_folding c) ≡ true
unfolding tables values_ok full_folding_stepped
all_scalar c = Stepped-at_values full_folding full_folding_stepped scalars refl c

scalar-first : (c : ℕ) (ds : List ℕ) → scalars ds ≡ true → scalar c ≡ true → scalar (first_or c (or_itself c ds)) ≡ true
scalar-first c ds h h2 = grind arith

scalar-low : (c : ℕ) → scalar c ≡ true → scalar (low_one c) ≡ true
scalar-low c own = grind (arith, scalar-first, all_scalar)

scalars-low : (cs : List ℕ) → scalars cs ≡ true → scalars (low cs) ≡ true
scalars-low [] h = refl
scalars-low (c ∷ cs) h =
    grind (arith, and_parts, scalar-low, scalars-low cs)

-- ---- what the tests of a word need of its characters and of those around it

all-low : (p : ℕ → Bool) → ((c : ℕ) → p (low_one c) ≡ p c) → (cs : List ℕ) → list_all p (low cs) ≡ list_all p cs
all-low p same [] = refl
all-low p same (c ∷ cs) = ap₂ ◌&&◌ (same c) (all-low p same cs)

joins-low : (cs : List ℕ) → list_any is_joiner (low cs) ≡ list_any is_joiner cs
joins-low [] = refl
joins-low (c ∷ cs) = ap₂ ◌||◌ (joiner-low c) (joins-low cs)

reverse-low : (cs : List ℕ) → reverse (low cs) ≡ low (reverse cs)
reverse-low [] = refl
reverse-low (c ∷ cs) =
    cc (
      reverse-append (low_one c ∷ []) (low cs),
      reverse-low cs,
      reverse-append (c ∷ []) cs,
      map-append low_one (reverse cs) (c ∷ []),
    )

ends-low : (cs : List ℕ) → begins is_word_character (reverse (low cs)) ≡ begins is_word_character (reverse cs)
ends-low cs = grind (arith, reverse-low)

after_joiners-low : (cs : List ℕ) → after_joiners (low cs) ≡ low (after_joiners cs)
after_joiners-low [] = refl
after_joiners-low (c ∷ cs) = grind (arith, joiner-low, after_joiners-low cs)

run-low : (cs : List ℕ) → begins is_word_character (after_joiners (low cs))
    ≡ begins is_word_character (after_joiners cs)
run-low cs = grind (arith, after_joiners-low)

bytes-low : (cs : List ℕ) → length (encode_utf8_all (low cs)) ≡ length (encode_utf8_all cs)
bytes-low [] = refl
bytes-low (c ∷ cs) =
    omega (
      arith,
      length-append (encode_utf8 (low_one c)) (encode_utf8_all (low cs)),
      length-append (encode_utf8 c) (encode_utf8_all cs),
      length-encode (low_one c),
      length-encode c,
      (alike-low c).bytes,
      bytes-low cs,
    )

is_word-low : (before inside after : List ℕ) → is_word is_word_character (low before) (low inside) (low after)
    ≡ is_word is_word_character before inside after
unfolding is_word
is_word-low before inside after = grind (arith, all-low, word-low, ends-low, piece-low, joins-low, run-low, bytes-low)

-- ---- words, place by place

-- these are characters, and each folds evenly
record AreEven (cs : List ℕ) : Type 0 where
  scalars : scalars cs ≡ true
  even : list_all folds_evenly cs ≡ true

fold-all : (cs : List ℕ) → list_all folds_evenly cs ≡ true → default_case_fold cs ≡ low cs
fold-all [] h = default_case_fold-nil
fold-all (c ∷ cs) h =
    grind (arith, default_case_fold-cons, fold-all cs)

folding-low : (cs : List ℕ) → AreEven cs → encode_utf8_all (low cs) ≡ folding (encode_utf8_all cs)
folding-low cs h = grind (arith, fold-all, chars-encodes)

if_word-low : (before inside after : List ℕ) → AreEven inside → if_word (low before) (low inside) (low after)
    ≡ map folding (if_word before inside after)
if_word-low before inside after h =
    grind (arith, is_word-low, folding-low)

even-nil : AreEven []
even-nil = record { scalars = refl; even = refl }

even-parts : (c : ℕ) (cs : List ℕ) → AreEven (c ∷ cs) → AreEven (c ∷ []) × AreEven cs
even-parts c cs h =
    grind arith

scalars-append : (xs ys : List ℕ) → scalars xs ≡ true → scalars ys ≡ true → scalars (xs ++ ys) ≡ true
scalars-append [] ys h h2 = h2
scalars-append (x ∷ xs) ys h h2 =
    grind (arith, scalars-append xs ys)

even-push : (xs ys : List ℕ) → AreEven xs → AreEven ys → AreEven (xs ++ ys)
even-push xs ys h h2 =
    grind (arith, scalars-append, list_all-append)

words_on-low : (before inside rest : List ℕ) → AreEven inside → AreEven rest
    → words_on (low before) (low inside) (low rest) ≡ map folding (words_on before inside rest)
words_on-low before inside [] h rest_h = refl
words_on-low before inside (c ∷ cs) h rest_h =
    let longer : List ℕ = inside ++ c ∷ [] in
    let parts = even-parts c cs rest_h in
    let longer_h : AreEven longer = even-push inside (c ∷ []) h parts.0 in
    cc (
      map-append low_one inside (c ∷ []),
      if_word-low before longer cs longer_h,
      words_on-low before longer cs longer_h parts.1,
      map-append folding (if_word before longer cs) (words_on before longer cs),
    )

words_from-low : (before cs : List ℕ) → AreEven cs → words_from (low before) (low cs)
    ≡ map folding (words_from before cs)
words_from-low before [] h = refl
words_from-low before (c ∷ cs) h =
    cc (
      words_on-low before [] (c ∷ cs) even-nil h,
      words_from-low (c ∷ before) cs (even-parts c cs h).1,
      map-append folding (words_on before [] (c ∷ cs)) (words_from (c ∷ before) cs),
    )

pub words-folding-even : (text : List ℕ) → IsUtf8 text → list_all folds_evenly (chars text) ≡ true
    → words (folding text) ≡ map folding (words text)
unfolding words
words-folding-even text utf8 even =
    let cs : List ℕ = chars text in
    let own : scalars cs ≡ true = scalars-chars text utf8 in
    cc (
      words_after-places [] (chars (folding text)),
      fold-all cs even,
      chars-encodes (low cs) (scalars-low cs own),
      words_from-low [] cs (record { scalars = own; even = even }),
      words_after-places [] cs,
    )
