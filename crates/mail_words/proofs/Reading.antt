-- The words that are left after a place, as a text is read from its front.
use Rattle.mail_words.proofs.Imports.{◌≡◌, ℕ, Bool, true, false, ◌&&◌, List, [], ◌∷◌, ◌++◌, reverse, refl, sym, ap₂, ◌∙◌, lit<, arith, list_all, is_word_character, is_joiner, begins, after_joiners, front, after_front, is_other, read_front, words_left, within, long_at}
use Rattle.mail_words.proofs.Characters.{joiner_is_no_word_character, word_character_is_no_joiner, is_word_character-ascii}
use Rattle.mail_words.proofs.RunLemmas.{after-pass, after-fail, begins-after, is_some, after_joiners-joiner, after_joiners-other, run-word}
use Rattle.mail_words.proofs.Places.{words_on, words_from, words_after-places}
use Rattle.mail_words.proofs.WordTests.{same_before}
use Rattle.mail_words.proofs.Steps.{words_on-other, none_within, words_on-word}

-- ---- two tests are all that matters of the characters before

words_on-same : (before before' inside rest : List ℕ) → begins is_word_character before
    ≡ begins is_word_character before'
    → begins is_word_character (after_joiners before) ≡ begins is_word_character (after_joiners before')
    → words_on before inside rest ≡ words_on before' inside rest
words_on-same before before' inside [] first run = refl
words_on-same before before' inside (c ∷ cs) first run =
    grind (arith, same_before, words_on-same before before' (inside ++ c ∷ []) cs first run)

run-push : (c : ℕ) (before before' : List ℕ) → begins is_word_character (after_joiners before)
    ≡ begins is_word_character (after_joiners before')
    → begins is_word_character (after_joiners (c ∷ before)) ≡ begins is_word_character (after_joiners (c ∷ before'))
run-push c before before' run = grind (arith, after_joiners-joiner, after_joiners-other)

words_from-same : (before before' cs : List ℕ) → begins is_word_character before ≡ begins is_word_character before'
    → begins is_word_character (after_joiners before) ≡ begins is_word_character (after_joiners before')
    → words_from before cs ≡ words_from before' cs
words_from-same before before' [] first run = refl
words_from-same before before' (c ∷ cs) first run =
    ap₂ ◌++◌ (words_on-same before before' [] (c ∷ cs) first run)
    (words_from-same (c ∷ before) (c ∷ before') cs refl (run-push c before before' run))

-- if no word begins at the first character, only the run matters
words_from-run : (before before' cs : List ℕ) → begins is_word_character cs ≡ false
    → begins is_word_character (after_joiners before) ≡ begins is_word_character (after_joiners before')
    → words_from before cs ≡ words_from before' cs
words_from-run before before' cs h h2 = grind (arith, words_on-other, words_from-same, run-push)

-- ---- the words left

letter : is_word_character 0x61 ≡ true
letter = is_word_character-ascii 0x61 (lit< tt)

hyphen : is_joiner 0x2D ≡ true
unfolding is_joiner
hyphen = refl

-- the characters before the rest, the nearest first
abbrev before_rest : Bool → List ℕ
before_rest in_run = reverse (read_front in_run)

first_before_rest : (in_run : Bool) → begins is_word_character (before_rest in_run) ≡ false
first_before_rest in_run = grind (arith, joiner_is_no_word_character, hyphen)

run_before_rest : (in_run : Bool) → begins is_word_character (after_joiners (before_rest in_run)) ≡ in_run
run_before_rest in_run = grind (arith, hyphen, word_character_is_no_joiner, letter)

words_left-places : (in_run : Bool) (cs : List ℕ) → words_left in_run cs ≡ words_from (before_rest in_run) cs
unfolding words_left
words_left-places in_run cs = words_after-places (read_front in_run) cs

-- after a character at which no word begins
words_left-gap : (in_run : Bool) (c : ℕ) (cs : List ℕ) → is_word_character c ≡ false → words_left in_run (c ∷ cs)
    ≡ words_left (in_run && is_joiner c) cs
words_left-gap in_run c cs other =
    cc (
      words_left-places in_run (c ∷ cs),
      words_on-other (before_rest in_run) c cs other,
      words_from-same (c ∷ before_rest in_run) (before_rest (in_run && is_joiner c)) cs
          (other ∙ sym (first_before_rest (in_run && is_joiner c)))
          (go (is_joiner c) refl ∙ sym (run_before_rest (in_run && is_joiner c))),
      words_left-places (in_run && is_joiner c) cs,
    )
  where
    go : (t : Bool) → is_joiner c ≡ t → begins is_word_character (after_joiners (c ∷ before_rest in_run))
        ≡ (in_run && is_joiner c)
    go t h = grind (arith, run_before_rest)

pub words_left-end : (in_run : Bool) → words_left in_run [] ≡ []
words_left-end in_run = words_left-places in_run []

-- after a word character, the words left are those left after its plain word
words_from-past : (before cs : List ℕ) → begins is_word_character before ≡ true → words_from before cs
    ≡ words_left true (after_front is_word_character cs)
words_from-past before [] first = sym (words_left-end true)
words_from-past before (c ∷ cs) first = go (is_word_character c) refl (words_from-past (c ∷ before) cs)
  where
    go : (t : Bool) → is_word_character c ≡ t
        → (is_word_character c ≡ true → words_from (c ∷ before) cs ≡ words_left true (after_front is_word_character cs))
        → words_from before (c ∷ cs) ≡ words_left true (after_front is_word_character (c ∷ cs))
    go true e rest =
        cc (none_within before [] (c ∷ cs) first (run-word before first), rest e, after-pass is_word_character c cs e)
    go false e rest =
        cc (
          words_from-run before (before_rest true) (c ∷ cs) e (run-word before first ∙ sym (run_before_rest true)),
          words_left-places true (c ∷ cs),
          after-fail is_word_character (c ∷ cs) e,
        )

-- at a word character, the words left are those that begin there and those left after its plain word
pub words_left-word : (in_run : Bool) (cs : List ℕ) → begins is_word_character cs ≡ true
    → words_left in_run cs ≡ (within (front is_word_character cs) ++ long_at in_run cs) ++ words_left true
    (after_front is_word_character cs)
words_left-word in_run [] e = cc
words_left-word in_run (c ∷ cs) e =
    cc (
      words_left-places in_run (c ∷ cs),
      words_on-word in_run (before_rest in_run) (c ∷ cs) (first_before_rest in_run) (run_before_rest in_run) e,
      words_from-past (c ∷ before_rest in_run) cs e,
      after-pass is_word_character c cs e,
    )

-- after all characters at which no word begins
pub words_left-gaps : (in_run : Bool) (cs : List ℕ) → words_left in_run cs
    ≡ words_left (in_run && list_all is_joiner (front is_other cs)) (after_front is_other cs)
words_left-gaps in_run [] = grind arith
words_left-gaps in_run (c ∷ cs) = grind (arith, words_left-gap, words_left-gaps (in_run && is_joiner c) cs)

begins-other : (cs : List ℕ) → begins is_other cs ≡ false → is_some cs ≡ true → begins is_word_character cs ≡ true
begins-other cs h h2 = grind arith

-- a word begins after these, unless nothing is left
pub begins-gaps : (cs : List ℕ) → is_some (after_front is_other cs) ≡ true
    → begins is_word_character (after_front is_other cs)
    ≡ true
begins-gaps cs some = grind (arith, begins-other, begins-after)
