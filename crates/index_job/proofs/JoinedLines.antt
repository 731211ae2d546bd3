-- The words of two texts that a line break joins are those of the first, and then those of the second, because no word
-- has a line break.
use Rattle.index_job.proofs.Words.{◌≡◌, ◌∙◌, ◌&&◌, ℕ, Bool, List, [], ◌∷◌, ◌++◌, refl, sym, ap, ap₂, arith, true, false, append_assoc, chars, words, Global, String, string_bytes, Result, Ok, Err, OnOk, IsAscii, if◌then◌else◌, length, string_len, ◌==◌}
use Rattle.index_job.proofs.BlankTexts.{blank-words}
use Rattle.std.proofs.Common.{IsUtf8, encode_utf8, eqb-true, lit<}
use Rattle.std.proofs.lemmas.List.{nil_from_length}
use Rattle.std.proofs.lemmas.Str.{IsUtf8-from_ascii, IsUtf8-string_bytes, chars-IsAscii, chars-append, encode_ascii}
use Rattle.std.proofs.lemmas.Str.Ascii.{IsAscii-nil, IsAscii-cons}
use Rattle.std.specs.Result.{is_ok}
use Rattle.mail_words.proofs.Characters.{is_word_character-ascii, word_character_is_no_joiner}
use Rattle.mail_words.proofs.Lengths.{words_left-whole}
use Rattle.mail_words.proofs.Reading.{words_left-end, words_left-gaps, words_left-word}
use Rattle.mail_words.proofs.RunLemmas.{after-fail, after-pass, front-fail, front-pass, joined_front-joiner, joined_front-other, joined_front-word}
use Rattle.mail_words.specs.Words.{is_joiner, is_word_character}
use Rattle.mail_words.specs.Inside.Runs.{after_front, front, joined_front, long_at, within, words_left}

-- a line break
abbrev brk : ℕ
brk = 0x0A

no-word : is_word_character brk ≡ false
no-word = is_word_character-ascii _ (lit< tt)

no-joiner : is_joiner brk ≡ false
unfolding is_joiner
no-joiner = refl

-- ---- the runs at the front of characters before a line break

front-before : (cs ds : List ℕ) → front is_word_character (cs ++ brk ∷ ds) ≡ front is_word_character cs
front-before [] ds = front-fail is_word_character (brk ∷ ds) no-word
front-before (c ∷ cs) ds = grind (arith, front-pass, front-fail, front-before cs ds)

after-before : (cs ds : List ℕ) → after_front is_word_character (cs ++ brk ∷ ds)
    ≡ after_front is_word_character cs ++ brk ∷ ds
after-before [] ds = after-fail is_word_character _ no-word
after-before (c ∷ cs) ds = grind (arith, after-pass, after-fail, after-before cs ds)

joined-before : (cs ds : List ℕ) → joined_front (cs ++ brk ∷ ds) ≡ joined_front cs
joined-before [] ds = joined_front-other _ _ no-word no-joiner
joined-before (c ∷ cs) ds = grind (
  arith,
  joined_front-word,
  joined_front-joiner,
  joined_front-other,
  word_character_is_no_joiner,
  joined-before cs ds,
)

long-before : (in_run : Bool) (cs ds : List ℕ) → long_at in_run (cs ++ brk ∷ ds) ≡ long_at in_run cs
long-before true _ _ = refl
long-before false _ _ = grind (arith, front-before, after-before, joined-before)

-- ---- the words that are left

-- after a character at which no word begins
left-gap : (in_run : Bool) (c : ℕ) (cs : List ℕ) → is_word_character c ≡ false → words_left in_run (c ∷ cs)
    ≡ words_left (in_run && is_joiner c) cs
left-gap _ c _ other = grind (arith, words_left-gaps, front-pass, after-pass)

-- from a line break on
left-break : (in_run : Bool) (ds : List ℕ) → words_left in_run (brk ∷ ds) ≡ words_left false ds
left-break _ _ = grind (arith, left-gap, no-word, no-joiner)

-- The words left before the line break, and then those after it; also if a word is passed first.
record Parted (cs ds : List ℕ) : Type 0 where
  here : (in_run : Bool) → words_left in_run (cs ++ brk ∷ ds) ≡ words_left in_run cs ++ words_left false ds
  past : words_left true (after_front is_word_character (cs ++ brk ∷ ds))
      ≡ words_left true (after_front is_word_character cs) ++ words_left false ds

parted : (cs ds : List ℕ) → Parted cs ds
parted [] ds = record {
  here = λ in_run. left-break _ _ ∙ sym (ap (λ ws. ws ++ words_left false ds) (words_left-end _));
  past = cc (left-break _ _, after-before [] ds, words_left-end _);
}
parted (c ∷ cs) ds = go (is_word_character c) refl (parted cs ds)
  where
    gap : (in_run : Bool) → is_word_character c ≡ false → Parted cs ds
        → words_left in_run (c ∷ (cs ++ brk ∷ ds)) ≡ words_left in_run (c ∷ cs) ++ words_left false ds
    gap in_run other rest = grind (arith, left-gap, is_joiner, words_left)

    passed : is_word_character c ≡ true → Parted cs ds
        → words_left true (after_front is_word_character (c ∷ (cs ++ brk ∷ ds)))
        ≡ words_left true (after_front is_word_character (c ∷ cs)) ++ words_left false ds
    passed e rest = grind (arith, after-pass)

    word : (in_run : Bool) → is_word_character c ≡ true
        → words_left true (after_front is_word_character (c ∷ (cs ++ brk ∷ ds)))
        ≡ words_left true (after_front is_word_character (c ∷ cs)) ++ words_left false ds
        → words_left in_run (c ∷ (cs ++ brk ∷ ds)) ≡ words_left in_run (c ∷ cs) ++ words_left false ds
    word in_run e past =
        let first : List (List ℕ) = within (front is_word_character (c ∷ cs)) ++ long_at in_run (c ∷ cs) in
        words_left-word _ _ e ∙ ap₂ ◌++◌ (ap₂ (λ plain longs. within plain ++ longs) (front-before (c ∷ cs) ds)
        (long-before in_run (c ∷ cs) ds)) past
        ∙ sym (append_assoc first (words_left true (after_front is_word_character (c ∷ cs))) (words_left false ds))
        ∙ ap (λ ws. ws ++ words_left false ds) (sym (words_left-word _ _ e))

    go : (t : Bool) → is_word_character c ≡ t → Parted cs ds → Parted (c ∷ cs) ds
    go true e rest = record { here = λ in_run. word _ e (passed e rest); past = passed e rest }
    go false e rest = record {
      here = λ in_run. gap _ e rest;
      past = grind (arith, after-fail, gap true e rest);
    }

left-joined : (cs ds : List ℕ) → words_left false (cs ++ brk ∷ ds) ≡ words_left false cs ++ words_left false ds
left-joined cs ds = (parted _ _).here false

-- ---- the words of a text

chars-joined : (text line : List ℕ) → IsUtf8 text → IsUtf8 line → chars (text ++ brk ∷ line)
    ≡ chars text ++ brk ∷ chars line
chars-joined text line utf8 _ =
    let ascii : IsAscii (brk ∷ []) = IsAscii-cons brk [] (lit< tt) IsAscii-nil in
    chars-append _ _ utf8 ∙ ap (λ cs. chars text ++ cs)
    (chars-append (brk ∷ []) _ (IsUtf8-from_ascii _ ascii) ∙ ap (λ cs. cs ++ chars line) (chars-IsAscii _ ascii))

pub words-joined : (text line : List ℕ) → IsUtf8 text → IsUtf8 line → words (text ++ brk ∷ line)
    ≡ words text ++ words line
words-joined text line utf8 utf8' = sym (words_left-whole _) ∙ ap (words_left false) (chars-joined _ _ utf8 utf8')
    ∙ left-joined _ _ ∙ ap₂ ◌++◌ (words_left-whole _) (words_left-whole _)

-- an empty text has no words
pub none-wait : (text : String Global) → (string_len text == 0) ≡ true → words (string_bytes text) ≡ []
none-wait text empty = grind (arith, length, string_bytes, eqb-true, words, nil_from_length, blank-words)

-- the text has one more line
pub waits : {T E : Type 0} (r : Result T E) (old mid new : String Global) (line : List ℕ) (seen : List (List ℕ))
    → words (string_bytes old) ≡ seen → IsUtf8 line → string_bytes mid ≡ string_bytes old ++ encode_utf8 brk
    → string_bytes new ≡ (if is_ok r then string_bytes mid ++ line else string_bytes mid)
    → OnOk r (words (string_bytes new) ≡ seen ++ words line)
waits (Err e) _ _ _ _ _ _ _ _ _ = tt
waits (Ok x) old _ _ line _ was utf8 more is =
    ap words (is ∙ ap (λ bytes. bytes ++ line) (more ∙ ap (λ bs. string_bytes old ++ bs) (encode_ascii brk (lit< tt)))
    ∙ append_assoc (string_bytes old) (brk ∷ []) line) ∙ words-joined _ line (IsUtf8-string_bytes old) utf8
    ∙ ap (λ ws. ws ++ words line) was
