-- Laws of the runs at the front of the rest of a text.
use Rattle.mail_words.proofs.Imports.{◌≡◌, ℕ, Bool, true, false, List, [], ◌∷◌, ◌++◌, refl, arith, is_word_character, is_joiner, begins, after_joiners, front, after_front, joined_to, joined_front}
use Rattle.mail_words.proofs.Characters.{joiner_is_no_word_character, word_character_is_no_joiner}

pub front-pass : (p : ℕ → Bool) (c : ℕ) (cs : List ℕ) → p c ≡ true → front p (c ∷ cs) ≡ c ∷ front p cs
front-pass p c cs e = rw (e, front) refl

pub front-fail : (p : ℕ → Bool) (cs : List ℕ) → begins p cs ≡ false → front p cs ≡ []
front-fail p cs h = grind arith

pub after-pass : (p : ℕ → Bool) (c : ℕ) (cs : List ℕ) → p c ≡ true → after_front p (c ∷ cs) ≡ after_front p cs
after-pass p c cs e = rw (e, after_front) refl

pub after-fail : (p : ℕ → Bool) (cs : List ℕ) → begins p cs ≡ false → after_front p cs ≡ cs
after-fail p cs h = grind arith

pub front-after : (p : ℕ → Bool) (cs : List ℕ) → front p cs ++ after_front p cs ≡ cs
front-after p [] = refl
front-after p (c ∷ cs) = grind (arith, front-pass, after-pass, front-fail, after-fail, front-after p cs)

pub begins-after : (p : ℕ → Bool) (cs : List ℕ) → begins p (after_front p cs) ≡ false
begins-after p [] = refl
begins-after p (c ∷ cs) = grind (arith, after-pass, after-fail, begins-after p cs)

-- whether there is a first element
abbrev pub is_some : List ℕ → Bool
is_some = begins (λ _. true)

pub joined_front-word : (c : ℕ) (cs : List ℕ) → is_word_character c ≡ true → joined_front (c ∷ cs) ≡ c ∷ joined_front cs
joined_front-word c cs e = rw (e, joined_front) refl

pub joined_front-joiner : (c : ℕ) (cs : List ℕ) → is_joiner c ≡ true → joined_front (c ∷ cs)
    ≡ joined_to c (joined_front cs)
joined_front-joiner c cs e = grind (arith, joiner_is_no_word_character)

pub joined_front-other : (c : ℕ) (cs : List ℕ) → is_word_character c ≡ false → is_joiner c ≡ false
    → joined_front (c ∷ cs) ≡ []
joined_front-other c cs e f = rw (e, f, joined_front) refl

pub joined_front-none : (cs : List ℕ) → begins is_word_character cs ≡ false → begins is_joiner cs ≡ false
    → joined_front cs ≡ []
joined_front-none cs h h2 = grind (arith, joined_front-other)

pub after_joiners-joiner : (c : ℕ) (cs : List ℕ) → is_joiner c ≡ true → after_joiners (c ∷ cs) ≡ after_joiners cs
after_joiners-joiner c cs e = rw (e, after_joiners) refl

pub after_joiners-other : (c : ℕ) (cs : List ℕ) → is_joiner c ≡ false → after_joiners (c ∷ cs) ≡ c ∷ cs
after_joiners-other c cs e = rw (e, after_joiners) refl

-- the run continues exactly if a word character follows the joiners
pub is_some-joined_front : (cs : List ℕ) → is_some (joined_front cs) ≡ begins is_word_character (after_joiners cs)
is_some-joined_front [] = refl
is_some-joined_front (c ∷ cs) = grind (
  arith,
  joined_front-word,
  after_joiners-other,
  word_character_is_no_joiner,
  joined_front-joiner,
  after_joiners-joiner,
  joined_front-other,
  is_some-joined_front cs,
)

-- characters that begin with a word character continue a run
pub run-word : (cs : List ℕ) → begins is_word_character cs ≡ true → begins is_word_character (after_joiners cs) ≡ true
run-word cs h = grind (arith, after_joiners-other, word_character_is_no_joiner)
