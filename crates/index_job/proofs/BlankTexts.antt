-- A text of spaces and control characters has no words, because none of these is a word character.
use Rattle.index_job.proofs.Words.{◌≡◌, ◌≤◌, ◌∙◌, ℕ, List, [], ◌∷◌, refl, sym, ap, arith, IsAscii, nat_tests, words, Draft, TextKind, text_terms, draft_with_terms}
use Rattle.std.proofs.Common.{true, false}
use Rattle.std.proofs.lemmas.Str.{chars-IsAscii}
use Rattle.std.proofs.lemmas.Str.Ascii.{IsAscii-nil, IsAscii-cons}
use Rattle.mail_words.proofs.Characters.{is_word_character-ascii}
use Rattle.mail_words.proofs.Lengths.{words_left-whole}
use Rattle.mail_words.proofs.Reading.{words_left-end, words_left-gaps}
use Rattle.mail_words.specs.Inside.Runs.{after_front, is_other, words_left}
use Rattle.index_job.specs.Inside.BlankTexts.{is_blank_text}

blank-ascii : (bs : List ℕ) → is_blank_text bs ≡ true → IsAscii bs
blank-ascii [] h = IsAscii-nil
blank-ascii (b ∷ bs) h = IsAscii-cons b _ (grind (arith, nat_tests)) (blank-ascii bs (grind arith))

blank-other : (b : ℕ) → b ≤ 0x20 → is_other b ≡ true
blank-other b small = grind (arith, nat_tests, is_word_character-ascii)

blank-passed : (bs : List ℕ) → is_blank_text bs ≡ true → after_front is_other bs ≡ []
blank-passed [] h = refl
blank-passed (b ∷ bs) h = grind (arith, nat_tests, blank-other, blank-passed bs)

pub blank-words : (text : List ℕ) → is_blank_text text ≡ true → words text ≡ []
blank-words text h = sym (words_left-whole _) ∙ ap (words_left false) (chars-IsAscii _ (blank-ascii _ h))
    ∙ words_left-gaps _ _ ∙ ap (words_left false) (blank-passed _ h) ∙ words_left-end _

-- so it has no terms
pub blank-terms : (kind : TextKind) (text : List ℕ) (d : Draft) → is_blank_text text ≡ true
    → d ≡ draft_with_terms (text_terms (kind, text)) d
blank-terms _ text d h = rw (blank-words _ h) refl
