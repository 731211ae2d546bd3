-- A text is one word if it can be part of a word, begins with a word character, and is the joined front of itself.
use Rattle.mail_words.proofs.Imports.{◌≡◌, ℕ, ◌≤◌, Bool, true, false, not, ◌&&◌, ◌||◌, List, [], ◌∷◌, ◌++◌, length, reverse, encode_utf8_all, IsUtf8, nat_le, nat_lt, refl, sym, ap, ◌∙◌, arith, length-append, and-true, and-false, le-leb, eq-eqb, eqb-true, reverse-append, encodes-append, encodes-chars, length-le-encodes, length-encode, len_utf8_bounds, list_all, list_any, is_word_character, is_joiner, begins, is_one_word, is_part_of_word, is_word, word_limit, is_piece, front, after_front, joined_to, joined_front}
use Rattle.std.proofs.Common.{chars}
use Rattle.std.specs.Prelude.{◌==◌}
use Rattle.std.proofs.lemmas.List.{append-nil}
use Rattle.mail_words.proofs.RunLemmas.{is_some, front-pass, front-fail, front-after, joined_front-word, joined_front-joiner, joined_front-other}

-- ---- the last character

is_some-append : (xs ys : List ℕ) → is_some ys ≡ true → is_some (xs ++ ys) ≡ true
is_some-append [] ys h = h
is_some-append (x ∷ xs) ys h = refl

is_some-reverse : (xs : List ℕ) → is_some xs ≡ true → is_some (reverse xs) ≡ true
is_some-reverse [] h = h
is_some-reverse (x ∷ xs) h = ap is_some (reverse-append (x ∷ []) xs) ∙ is_some-append (reverse xs) (x ∷ []) refl

begins-front : (p : ℕ → Bool) (xs ys : List ℕ) → is_some xs ≡ true → begins p (xs ++ ys) ≡ begins p xs
begins-front p xs ys h = grind arith

pub ends-cons : (p : ℕ → Bool) (c : ℕ) (cs : List ℕ) → is_some cs ≡ true → begins p (reverse (c ∷ cs))
    ≡ begins p (reverse cs)
ends-cons p c cs h = cc (reverse-append (c ∷ []) cs, begins-front p (reverse cs) (c ∷ []) (is_some-reverse cs h))

-- ---- the joined front

-- it is a prefix of the characters
joined_to-prefix : (c : ℕ) (cs js : List ℕ) → (rest : List ℕ) × (cs ≡ js ++ rest) → (rest : List ℕ)
    × (c ∷ cs ≡ joined_to c js ++ rest)
joined_to-prefix c cs [] h = (c ∷ cs, refl)
joined_to-prefix c cs (j ∷ js) h = (h.0, ap (λ ds. c ∷ ds) h.1)

pub joined_front-prefix : (cs : List ℕ) → (rest : List ℕ) × (cs ≡ joined_front cs ++ rest)
joined_front-prefix [] = ([], refl)
joined_front-prefix (c ∷ cs) = go (is_word_character c) (is_joiner c) refl refl (joined_front-prefix cs)
  where
    go : (w j : Bool) → is_word_character c ≡ w → is_joiner c ≡ j → (rest : List ℕ) × (cs ≡ joined_front cs ++ rest)
        → (rest : List ℕ) × (c ∷ cs ≡ joined_front (c ∷ cs) ++ rest)
    go true j e f h = grind arith
    go false true e f h =
        let more = joined_to-prefix c cs (joined_front cs) h
        in grind arith
    go false false e f h = (c ∷ cs, grind arith)

-- it has word characters and joiners alone
all-joined_front : (cs : List ℕ) → list_all is_piece (joined_front cs) ≡ true
all-joined_front [] = refl
all-joined_front (c ∷ cs) = grind (
  arith,
  cs,
  joined_front-word,
  joined_front-joiner,
  joined_front-other,
  all-joined_front cs,
)

-- it ends with a word character
ends-word : (c : ℕ) (cs : List ℕ) → is_word_character c ≡ true
    → (is_some cs ≡ true → begins is_word_character (reverse cs) ≡ true) → begins is_word_character (reverse (c ∷ cs))
    ≡ true
ends-word c cs h h2 = grind (arith, ends-cons)

ends-joined_to : (c : ℕ) (cs : List ℕ) → (is_some cs ≡ true → begins is_word_character (reverse cs) ≡ true)
    → is_some (joined_to c cs) ≡ true
    → begins is_word_character (reverse (joined_to c cs)) ≡ true
ends-joined_to c [] h some = some
ends-joined_to c (d ∷ ds) h some = ends-cons is_word_character c (d ∷ ds) refl ∙ h refl

pub ends-joined_front : (cs : List ℕ) → is_some (joined_front cs) ≡ true
    → begins is_word_character (reverse (joined_front cs)) ≡ true
ends-joined_front [] some = some
ends-joined_front (c ∷ cs) some = grind (
  arith,
  cs,
  is_some,
  joined_front-word,
  ends-word,
  joined_front-joiner,
  ends-joined_to,
  joined_front-other,
  ends-joined_front cs,
)

-- ---- when it is the whole text

joined_front-whole : (cs : List ℕ) → list_all is_piece cs ≡ true
    → (is_some cs ≡ true → begins is_word_character (reverse cs) ≡ true) → joined_front cs ≡ cs
joined_front-whole [] pieces ended = refl
joined_front-whole (c ∷ cs) pieces ended =
    grind (arith, ends-cons, joined_front-whole cs)

-- ---- the tests together

pieces_of_words : (cs : List ℕ) → list_all is_word_character cs ≡ true → list_all is_piece cs ≡ true
pieces_of_words [] h = refl
pieces_of_words (c ∷ cs) h =
    grind (arith, pieces_of_words cs)

ends_of_words : (cs : List ℕ) → list_all is_word_character cs ≡ true → is_some cs ≡ true
    → begins is_word_character (reverse cs) ≡ true
ends_of_words [] h some = some
ends_of_words (c ∷ cs) h some =
    grind (arith, ends-word, ends_of_words cs)

-- word characters and joiners without a joiner are word characters
all_or_joined : (cs : List ℕ) → list_all is_piece cs ≡ true → (list_all is_word_character cs || list_any is_joiner cs)
    ≡ true
all_or_joined [] h = refl
all_or_joined (c ∷ cs) h =
    grind (arith, all_or_joined cs)

some_length : (cs : List ℕ) → is_some cs ≡ true → 1 ≤ length cs
some_length cs h = grind arith

some-begins : (cs : List ℕ) → begins is_word_character cs ≡ true → is_some cs ≡ true
some-begins cs h = grind arith

abbrev word_tests : Bool → Bool → Bool → Bool → Bool → Bool → Bool
word_tests begun all ended pieces joins short =
    (((begun && all && not false && not false) || (begun && ended && pieces && joins && not false && not false)) &&
    short)

-- the three tests together are the test of a word, for a whole text
tests_as_one : (begun all ended pieces joins short some whole : Bool) → (all ≡ true → pieces ≡ true)
    → (begun ≡ true → all ≡ true → ended ≡ true) → (pieces ≡ true → (all || joins) ≡ true)
    → (begun ≡ true → some ≡ true) → (pieces ≡ true → ended ≡ true → whole ≡ true)
    → (begun ≡ true → whole ≡ true → ended ≡ true)
    → word_tests begun all ended pieces joins short ≡ ((some && short && pieces) && (begun && whole))
tests_as_one begun all ended pieces joins short some whole h h2 h3 h4 h5 h6 = grind (arith, and-false, and-true, whole)

-- the run is the whole text if it has as many bytes
same_length : (cs js rest : List ℕ) → cs ≡ js ++ rest → length (encode_utf8_all js) ≡ length (encode_utf8_all cs) → js
    ≡ cs
same_length cs js [] parts same = sym (parts ∙ append-nil js)
same_length cs js (r ∷ rest) parts same =
    absurd (omega (
      arith,
      same,
      ap (λ ds. length (encode_utf8_all ds)) parts,
      ap length (encodes-append js (r ∷ rest)),
      length-append (encode_utf8_all js) (encode_utf8_all (r ∷ rest)),
      length-le-encodes (r ∷ rest),
    ))

pub is_one_word-parts : (text : List ℕ) → IsUtf8 text
    → is_one_word text ≡ (is_part_of_word text &&
    (begins is_word_character (chars text) &&
    (length (encode_utf8_all (joined_front (chars text))) == length text)))
unfolding is_one_word is_part_of_word is_word
is_one_word-parts text utf8 =
    cc (
      tests_as_one begun (list_all is_word_character cs) (begins is_word_character (reverse cs))
          (list_all is_piece cs) (list_any is_joiner cs) (nat_le (length (encode_utf8_all cs)) word_limit)
          (nat_le 1 (length text)) whole (pieces_of_words cs) (λ b a. ends_of_words cs a (some-begins cs b))
          (all_or_joined cs) (λ b. le-leb 1 (length text)
          (omega (arith, bytes, length-le-encodes cs, some_length cs (some-begins cs b))))
          (λ pieces ended. eq-eqb (length (encode_utf8_all (joined_front cs))) (length text)
          (ap (λ ds. length (encode_utf8_all ds)) (joined_front-whole cs pieces (λ _. ended)) ∙ bytes))
          (λ b w. let parts = joined_front-prefix cs in let same =
          same_length cs (joined_front cs) parts.0 parts.1
          (eqb-true (length (encode_utf8_all (joined_front cs))) (length text) w ∙ sym bytes)
          in ap (λ ds. begins is_word_character (reverse ds)) (sym same)
          ∙ ends-joined_front cs (ap is_some same ∙ some-begins cs b)),
      bytes,
    )
  where
    cs : List ℕ
    cs = chars text

    begun : Bool
    begun = begins is_word_character cs

    whole : Bool
    whole = length (encode_utf8_all (joined_front cs)) == length text

    bytes : length (encode_utf8_all cs) ≡ length text
    bytes = ap length (encodes-chars text utf8)

pub ruleset is_one_word_parts = is_one_word-parts

-- ---- the characters at the front that pass

all-front : (p : ℕ → Bool) (cs : List ℕ) → list_all p (front p cs) ≡ true
all-front p [] = refl
all-front p (c ∷ cs) = grind (arith, front-pass, front-fail, all-front p cs)

front-all : (p : ℕ → Bool) (cs : List ℕ) → list_all p cs ≡ true → front p cs ≡ cs
front-all p [] h = refl
front-all p (c ∷ cs) h =
    grind (arith, front-all p cs)

-- the front has as many bytes as the text exactly if all characters pass
pub whole-front : (p : ℕ → Bool) (text : List ℕ) → IsUtf8 text
    → (length (encode_utf8_all (front p (chars text))) == length text) ≡ list_all p (chars text)
whole-front p text utf8 = go (list_all p (chars text)) (length (encode_utf8_all (front p (chars text))) == length text)
    refl refl
  where
    bytes : length (encode_utf8_all (chars text)) ≡ length text
    bytes = ap length (encodes-chars text utf8)

    go : (all whole : Bool) → list_all p (chars text) ≡ all
        → (length (encode_utf8_all (front p (chars text))) == length text) ≡ whole → whole ≡ all
    go true whole e f = grind (arith, front-all, bytes)
    go false true e f =
        let same = same_length (chars text) (front p (chars text)) (after_front p (chars text))
        (sym (front-after p (chars text))) (eqb-true _ _ f ∙ sym bytes) in
        grind (arith, all-front)
    go false false e f = refl

-- the front has bytes exactly if the first character passes
pub some-front : (p : ℕ → Bool) (cs : List ℕ) → nat_lt 0 (length (encode_utf8_all (front p cs))) ≡ begins p cs
some-front p [] = refl
some-front p (c ∷ cs) = grind (
  arith,
  front-pass,
  front-fail,
  encode_utf8_all,
  length-append,
  length-encode c,
  len_utf8_bounds c,
)
