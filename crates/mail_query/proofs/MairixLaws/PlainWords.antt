-- No word of mail, and no part of one, has a sign of the grammar of patterns, because no character of words is a sign.
use Rattle.mail_query.proofs.Words.{◌≡◌, ℕ, ◌<◌, ◌≤◌, true, false, List, [], ◌∷◌, length, get_or, chars, IsUtf8, Option, inl, inr, refl, sym, ap, ◌∙◌, arith, ◌&&◌, ◌||◌, nat_le, is_ascii_alphanumeric, list_all, list_any, NonePass, NoCharPasses, and_parts, and_from, both_ways, false_from_ne_true, agree_below_at, cases_lt, nat_tests, encodes-chars, NoCharPasses-byte, Range, is_sign, HasNoSigns, mail_lexicon}
use Rattle.mail_words.specs.Words.{is_joiner, is_one_word, is_part_of_word, word_limit}
use Rattle.mail_words.proofs.Characters.{is_word_character-ascii}
use Rattle.mail_words.proofs.OneWord.{is_one_word-parts}
use Rattle.mail_words.specs.Inside.Runs.{is_piece}
use Rattle.mail_query.proofs.PieceLemmas.{none_passes}

sign_below : (b : ℕ) → is_sign b ≡ true → b < 128
sign_below b h = grind (arith, nat_tests)

apart : (c : ℕ) → c < 128 → (is_sign c && (is_ascii_alphanumeric c || is_joiner c)) ≡ false
unfolding is_joiner
apart c below = agree_below_at (λ n. is_sign n && (is_ascii_alphanumeric n || is_joiner n)) (λ n. false) 128 c refl
    below

-- a character of a word isn't a sign
piece_is_no_sign : (c : ℕ) → is_piece c ≡ true → is_sign c ≡ false
piece_is_no_sign c piece =
    false_from_ne_true (is_sign c) (λ h.
    let below : c < 128 = sign_below c h in
    let plain : (is_ascii_alphanumeric c || is_joiner c) ≡ true =
    ap (λ w. w || is_joiner c) (sym (is_word_character-ascii c below)) ∙ piece in
    both_ways (is_sign c && (is_ascii_alphanumeric c || is_joiner c)) (apart c below)
    (and_from (is_sign c) (is_ascii_alphanumeric c || is_joiner c) h plain))

none_pass : (cs : List ℕ) → list_all is_piece cs ≡ true → NonePass is_sign cs
none_pass [] h = tt
none_pass (c ∷ cs) h = grind (arith, piece_is_no_sign, none_pass cs)

large_is_no_sign : (b : ℕ) → 128 ≤ b → is_sign b ≡ false
large_is_no_sign b h = grind arith

byte_is_no_sign : (text : List ℕ) → NoCharPasses is_sign text → (i : ℕ) → i < length text → is_sign (get_or text i 0)
    ≡ false
byte_is_no_sign text none i below =
    elim (cases_lt (get_or text i 0) 128) [
      | inl small ↦ NoCharPasses-byte is_sign text i none below small
      | inr large ↦
          large_is_no_sign (get_or text i 0) large
    ]

piece_plain : (text : List ℕ) → IsUtf8 text → is_part_of_word text ≡ true → list_any is_sign text ≡ false
unfolding is_part_of_word
piece_plain text utf8 h =
    let parts = and_parts (nat_le 1 (length text) && nat_le (length text) word_limit) (list_all is_piece (chars text)) h
    in
    none_passes is_sign text (byte_is_no_sign text
    (chars text, encodes-chars text utf8, none_pass (chars text) parts.1))

word_plain : (text : List ℕ) → IsUtf8 text → is_one_word text ≡ true → list_any is_sign text ≡ false
word_plain text utf8 h =
    grind (arith, is_one_word-parts, piece_plain)

pub mail_plain : (dates : List ℕ → Option Range) → HasNoSigns (mail_lexicon dates)
mail_plain dates = record { words = word_plain; pieces = piece_plain }
