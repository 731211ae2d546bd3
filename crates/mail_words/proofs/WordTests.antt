-- When the middle one of three parts of a text is a word.
use Rattle.mail_words.proofs.Imports.{◌≡◌, ℕ, true, false, List, [], reverse, refl, and-false, or-true, list_all, list_any, is_word_character, is_joiner, begins, after_joiners, is_word, is_piece, within}
use Rattle.mail_words.proofs.Places.{if_word}

pub is_plain : (before inside after : List ℕ) → begins is_word_character inside ≡ true
    → list_all is_word_character inside ≡ true
    → begins is_word_character before ≡ false → begins is_word_character after ≡ false → if_word before inside after
    ≡ within inside
unfolding is_word
is_plain before inside after begun all first last = rw (begun, all, first, last) refl

pub is_long : (before inside after : List ℕ) → begins is_word_character inside ≡ true
    → begins is_word_character (reverse inside) ≡ true → list_all is_piece inside ≡ true
    → list_any is_joiner inside ≡ true → begins is_word_character (after_joiners before) ≡ false
    → begins is_word_character (after_joiners after) ≡ false
    → if_word before inside after ≡ within inside
unfolding is_word
is_long before inside after begun ended pieces joins first last =
    rw (begun, ended, pieces, joins, first, last) (rw or-true refl)

-- ---- when it isn't: each lemma has a reason against a plain word and one against a long one

pub none_begins : (before inside after : List ℕ) → begins is_word_character inside ≡ false
    → if_word before inside after ≡ []
unfolding is_word
none_begins before inside after begun = rw begun refl

pub none_inside : (before inside after : List ℕ) → begins is_word_character before ≡ true
    → begins is_word_character (after_joiners before) ≡ true → if_word before inside after ≡ []
unfolding is_word
none_inside before inside after first run = simp (first, run, and-false) refl

pub none_of_others : (before inside after : List ℕ) → list_all is_word_character inside ≡ false
    → list_all is_piece inside ≡ false → if_word before inside after ≡ []
unfolding is_word
none_of_others before inside after all pieces = simp (all, pieces, and-false) refl

pub none_ends : (before inside after : List ℕ) → list_all is_word_character inside ≡ false
    → begins is_word_character (reverse inside) ≡ false → if_word before inside after ≡ []
unfolding is_word
none_ends before inside after all ended = simp (all, ended, and-false) refl

pub none_yet : (before inside after : List ℕ) → begins is_word_character after ≡ true → list_any is_joiner inside
    ≡ false → if_word before inside after ≡ []
unfolding is_word
none_yet before inside after last joins = simp (last, joins, and-false) refl

pub none_in_run : (before inside after : List ℕ) → list_all is_word_character inside ≡ false
    → begins is_word_character (after_joiners before) ≡ true → if_word before inside after ≡ []
unfolding is_word
none_in_run before inside after all first = simp (all, first, and-false) refl

pub none_before_end : (before inside after : List ℕ) → list_all is_word_character inside ≡ false
    → begins is_word_character (after_joiners after) ≡ true → if_word before inside after ≡ []
unfolding is_word
none_before_end before inside after all last = simp (all, last, and-false) refl

-- two tests are all that matters of the characters before
pub same_before : (before before' inside after : List ℕ) → begins is_word_character before
    ≡ begins is_word_character before'
    → begins is_word_character (after_joiners before) ≡ begins is_word_character (after_joiners before')
    → if_word before inside after ≡ if_word before' inside after
unfolding is_word
same_before before before' inside after first run = rw (first, run) refl
