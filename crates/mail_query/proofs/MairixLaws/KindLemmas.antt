-- The letters of a prefix name the kinds that the grammar says, letter by letter.
use Rattle.mail_query.proofs.Words.{◌≡◌, ℕ, Bool, false, cond, List, [], ◌∷◌, None, Some, sym, ap, ◌∙◌, arith, ◌||◌, ◌&&◌, codes, option_and_then, list_all, or-false, eqb_tells, cond_some, Kinds, no_kinds, union, kinds_of_letter, kinds_with, kinds_of, is_letter_among, kinds_named, AreLetters}

abbrev are_letters : List ℕ → Bool
are_letters letters = list_all (is_letter_among (codes "tcfsban")) letters

letter_named : (letter : ℕ) → kinds_of_letter letter
    ≡ cond (is_letter_among (codes "tcfsban") letter) (Some (kinds_named (letter ∷ []))) None
letter_named letter = grind (arith, eqb_tells)

or_steps : (k a b : Bool) → ((k || (a || false)) || b) ≡ (k || (a || b))
or_steps k a b = grind arith

union-named : (kinds : Kinds) (letter : ℕ) (letters : List ℕ)
    → union (union kinds (kinds_named (letter ∷ []))) (kinds_named letters)
    ≡ union kinds (kinds_named (letter ∷ letters))
union-named kinds letter letters = grind (arith, or_steps)

union-none : (kinds : Kinds) → union kinds no_kinds ≡ kinds
union-none kinds = grind (arith, or-false)

with_named : (kinds : Kinds) (letters : List ℕ) → kinds_with kinds letters
    ≡ cond (are_letters letters) (Some (union kinds (kinds_named letters))) None
with_named kinds [] = ap Some (sym (union-none kinds))
with_named kinds (letter ∷ letters) =
    cc (
      letter_named letter,
      go (is_letter_among (codes "tcfsban") letter)
          (with_named (union kinds (kinds_named (letter ∷ []))) letters),
    )
  where
    go : (t : Bool) → kinds_with (union kinds (kinds_named (letter ∷ []))) letters
        ≡ cond (are_letters letters) (Some (union (union kinds (kinds_named (letter ∷ []))) (kinds_named letters))) None
        → option_and_then (λ more. kinds_with (union kinds more) letters)
        (cond t (Some (kinds_named (letter ∷ []))) None)
        ≡ cond (t && are_letters letters) (Some (union kinds (kinds_named (letter ∷ letters)))) None
    go t h = grind (arith, union-named)

some_named : (letter : ℕ) (letters : List ℕ) → kinds_of (letter ∷ letters)
    ≡ cond (are_letters (letter ∷ letters)) (Some (kinds_named (letter ∷ letters))) None
some_named letter letters = with_named no_kinds (letter ∷ letters)

-- letters of the grammar name their kinds
pub letters_read : (letters : List ℕ) → AreLetters letters → kinds_of letters ≡ Some (kinds_named letters)
letters_read letters h = grind (arith, some_named)

-- a text that names kinds has only letters of the grammar
pub record Named (letters : List ℕ) (kinds : Kinds) : Type 0 where
  pub letters_are : AreLetters letters
  pub kinds_are : kinds_named letters ≡ kinds

pub read_letters : (letters : List ℕ) (kinds : Kinds) → kinds_of letters ≡ Some kinds → Named letters kinds
read_letters [] kinds e = absurd cc
read_letters (letter ∷ letters) kinds e =
    let named = cond_some (are_letters (letter ∷ letters)) (kinds_named (letter ∷ letters)) kinds
    (sym (some_named letter letters) ∙ e) in
    grind arith
