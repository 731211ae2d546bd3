-- The words that begin at a place, by the character there.
use Rattle.mail_words.proofs.Imports.{◌≡◌, ℕ, Bool, true, false, ◌&&◌, ◌||◌, List, [], ◌∷◌, ◌++◌, reverse, refl, ap, ap₂, ◌∙◌, append_assoc, arith, and-false, or-true, reverse-append, list_all-append, list_any-append, list_all, list_any, is_word_character, is_joiner, begins, after_joiners, is_piece, front, after_front, joined_to, joined_front, within, joined_on, long_at}
use Rattle.mail_words.proofs.Characters.{joiner_is_no_word_character, word_character_is_no_joiner}
use Rattle.mail_words.proofs.RunLemmas.{front-pass, front-fail, after-pass, begins-after, is_some, joined_front-joiner, joined_front-other, is_some-joined_front}
use Rattle.mail_words.proofs.Places.{words_on}
use Rattle.mail_words.proofs.WordTests.{is_plain, is_long, none_begins, none_inside, none_of_others, none_ends, none_yet, none_in_run, none_before_end}

-- ---- the front of a word that grows by a character

ends-push : (p : ℕ → Bool) (xs : List ℕ) (c : ℕ) → begins p (reverse (xs ++ c ∷ [])) ≡ p c
ends-push p xs c = ap (begins p) (reverse-append xs (c ∷ []))

all-push : (p : ℕ → Bool) (xs : List ℕ) (c : ℕ) → list_all p (xs ++ c ∷ []) ≡ (list_all p xs && (p c && true))
all-push p xs c = list_all-append p xs (c ∷ [])

any-push : (p : ℕ → Bool) (xs : List ℕ) (c : ℕ) → list_any p (xs ++ c ∷ []) ≡ (list_any p xs || (p c || false))
any-push p xs c = list_any-append p xs (c ∷ [])

-- ---- no word begins here

-- none begins at a character that isn't a word character
none_begin : (before : List ℕ) (x : ℕ) (inside rest : List ℕ) → is_word_character x ≡ false
    → words_on before (x ∷ inside) rest ≡ []
none_begin before x inside [] other = refl
none_begin before x inside (c ∷ cs) other =
    ap₂ ◌++◌ (none_begins before (x ∷ inside ++ c ∷ []) cs other) (none_begin before x (inside ++ c ∷ []) cs other)

pub words_on-other : (before : List ℕ) (c : ℕ) (cs : List ℕ) → is_word_character c ≡ false → words_on before [] (c ∷ cs)
    ≡ []
words_on-other before c cs other = ap₂ ◌++◌ (none_begins before (c ∷ []) cs other) (none_begin before c [] cs other)

-- none begins inside a run of word characters
pub none_within : (before inside rest : List ℕ) → begins is_word_character before ≡ true
    → begins is_word_character (after_joiners before) ≡ true → words_on before inside rest ≡ []
none_within before inside [] first run = refl
none_within before inside (c ∷ cs) first run =
    grind (arith, none_inside, none_within before (inside ++ c ∷ []) cs first run)

-- none has a character that is neither a word character nor a joiner
none_with_other : (before inside rest : List ℕ) → list_all is_word_character inside ≡ false → list_all is_piece inside
    ≡ false → words_on before inside rest ≡ []
none_with_other before inside [] all pieces = refl
none_with_other before inside (c ∷ cs) all pieces =
    grind (arith, all-push, none_of_others, none_with_other before (inside ++ c ∷ []) cs)

-- none is a long word whose run began earlier
none_again : (before inside rest : List ℕ) → list_all is_word_character inside ≡ false
    → begins is_word_character (after_joiners before) ≡ true → words_on before inside rest ≡ []
none_again before inside [] all run = refl
none_again before inside (c ∷ cs) all run =
    grind (arith, all-push, none_in_run, none_again before (inside ++ c ∷ []) cs)

-- ---- a plain word

begins-all : (p : ℕ → Bool) (xs : List ℕ) (c : ℕ) → list_all p (xs ++ c ∷ []) ≡ true → begins p (xs ++ c ∷ []) ≡ true
begins-all p [] c h = grind arith
begins-all p (x ∷ xs) c h = grind arith

-- The words that begin with these word characters: first the plain word, which ends after the word characters `fore`,
-- then those that end in the rest.
abbrev plain_first : List ℕ → List ℕ → List ℕ → List ℕ → List (List ℕ)
plain_first before inside fore rest = within (inside ++ fore) ++ words_on before (inside ++ fore) rest

words_on-plain : (before inside cs : List ℕ) → list_all is_word_character inside ≡ true → list_any is_joiner inside
    ≡ false → begins is_word_character before ≡ false
    → begins is_word_character cs ≡ true → words_on before inside cs
    ≡ plain_first before inside (front is_word_character cs) (after_front is_word_character cs)
words_on-plain before inside [] all joins first e = cc
words_on-plain before inside (c ∷ cs) all joins first e =
    cc (
      go (begins is_word_character cs) refl (words_on-plain before longer cs all' joins' first),
      front-pass is_word_character c cs e,
      after-pass is_word_character c cs e,
    )
  where
    longer : List ℕ
    longer = inside ++ c ∷ []

    all' : list_all is_word_character longer ≡ true
    all' = grind (arith, all-push)

    joins' : list_any is_joiner longer ≡ false
    joins' = grind (arith, any-push, word_character_is_no_joiner)

    go : (t : Bool) → begins is_word_character cs ≡ t
        → (begins is_word_character cs ≡ true → words_on before longer cs
        ≡ plain_first before longer (front is_word_character cs) (after_front is_word_character cs))
        → words_on before inside (c ∷ cs) ≡ plain_first before inside (c ∷ front is_word_character cs)
        (after_front is_word_character cs)
    go true more rest = grind (arith, none_yet, joins', append_assoc)
    go false last rest =
        grind (arith, is_plain, begins-all, all')

-- ---- a long word

joined_on-push : (inside : List ℕ) (c : ℕ) (cs : List ℕ) → is_some cs ≡ true → joined_on (inside ++ c ∷ []) cs
    ≡ joined_on inside (c ∷ cs)
joined_on-push inside c cs h = grind (arith, append_assoc)

joined_on-joined_to : (inside : List ℕ) (c : ℕ) (cs : List ℕ) → joined_on (inside ++ c ∷ []) cs
    ≡ joined_on inside (joined_to c cs)
joined_on-joined_to inside c cs = grind (arith, append_assoc)

-- what holds of the front of a long word
record BeginsLong (before inside : List ℕ) : Type 0 where
  begun : begins is_word_character inside ≡ true
  pieces : list_all is_piece inside ≡ true
  first : begins is_word_character (after_joiners before) ≡ false

begins_long-push : (before inside : List ℕ) (c : ℕ) → BeginsLong before inside → is_piece c ≡ true
    → BeginsLong before (inside ++ c ∷ [])
begins_long-push before inside c h piece = grind (arith, all-push)

-- a joiner is in it
record IsJoined (inside : List ℕ) : Type 0 where
  joins : list_any is_joiner inside ≡ true
  all : list_all is_word_character inside ≡ false

is_joined-push : (inside : List ℕ) (c : ℕ) → IsJoined inside → IsJoined (inside ++ c ∷ [])
is_joined-push inside c h = grind (arith, any-push, all-push)

is_joined-joiner : (inside : List ℕ) (c : ℕ) → is_joiner c ≡ true → IsJoined (inside ++ c ∷ [])
is_joined-joiner inside c e = grind (arith, any-push, or-true, all-push, joiner_is_no_word_character, and-false)

none_past_other : (before inside : List ℕ) (c : ℕ) (cs : List ℕ) → is_word_character c ≡ false → is_joiner c ≡ false
    → words_on before inside (c ∷ cs) ≡ []
none_past_other before inside c cs e f = grind (arith, none_of_others, none_with_other, all-push, and-false)

words_on-joined : (before inside cs : List ℕ) → BeginsLong before inside → IsJoined inside → words_on before inside cs
    ≡ joined_on inside (joined_front cs)
words_on-joined before inside [] h j = refl
words_on-joined before inside (c ∷ cs) h j =
    go (is_word_character c) (is_joiner c) (begins is_word_character (after_joiners cs)) refl refl refl
    (words_on-joined before longer cs)
  where
    longer : List ℕ
    longer = inside ++ c ∷ []

    go : (w d more : Bool) → is_word_character c ≡ w → is_joiner c ≡ d → begins is_word_character (after_joiners cs)
        ≡ more
        → (BeginsLong before longer → IsJoined longer → words_on before longer cs ≡ joined_on longer (joined_front cs))
        → words_on before inside (c ∷ cs) ≡ joined_on inside (joined_front (c ∷ cs))
    go true d true e f m rest =
        grind (arith, begins_long-push, is_joined-push, none_before_end, joined_on-push, is_some-joined_front)
    go true d false e f m rest =
        grind (arith, begins_long-push, is_joined-push, is_some-joined_front, is_long, ends-push)
    go false true more e f m rest =
        grind (arith, begins_long-push, is_joined-push, none_ends, ends-push, joined_on-joined_to)
    go false false more e f m rest = grind (arith, none_past_other)

-- ---- the words that begin at the first character of a plain word

all_pieces : (cs : List ℕ) → list_all is_word_character cs ≡ true → list_all is_piece cs ≡ true
all_pieces [] h = refl
all_pieces (c ∷ cs) h =
    grind (arith, all_pieces cs)

all-front : (p : ℕ → Bool) (cs : List ℕ) → list_all p (front p cs) ≡ true
all-front p [] = refl
all-front p (c ∷ cs) = grind (arith, front-pass, front-fail, all-front p cs)

begins-front : (p : ℕ → Bool) (cs : List ℕ) → begins p cs ≡ true → begins p (front p cs) ≡ true
begins-front p cs h = grind (arith, front-pass)

-- the long word, after the plain one with which it begins
long_after : (before plain rest : List ℕ) → begins is_word_character plain ≡ true → list_all is_word_character plain
    ≡ true → begins is_word_character rest ≡ false
    → begins is_word_character (after_joiners before) ≡ false → words_on before plain rest
    ≡ joined_on plain (joined_front rest)
long_after before plain rest h h2 h3 h4 =
    grind (
      arith,
      words_on,
      is_joined-joiner,
      begins_long-push,
      all_pieces,
      none_ends,
      ends-push,
      words_on-joined,
      joined_on-joined_to,
      joined_front-joiner,
      none_past_other,
      joined_front-other,
    )

-- no long word, because its run began earlier
no_long_after : (before plain rest : List ℕ) → begins is_word_character rest ≡ false
    → begins is_word_character (after_joiners before) ≡ true → words_on before plain rest ≡ []
no_long_after before plain rest h h2 = grind (arith, none_in_run, none_again, all-push, and-false)

-- the plain word and the long one that begin at a word character
pub words_on-word : (in_run : Bool) (before cs : List ℕ) → begins is_word_character before ≡ false
    → begins is_word_character (after_joiners before) ≡ in_run → begins is_word_character cs ≡ true
    → words_on before [] cs ≡ within (front is_word_character cs) ++ long_at in_run cs
words_on-word in_run before cs first run e =
    grind (arith, words_on-plain, words_on, no_long_after, begins-after, long_after, begins-front, all-front)
