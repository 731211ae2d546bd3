-- Loops over the characters of a text that count the bytes of its front.
use Rattle.mail_words.proofs.Imports.{◌≡◌, ℕ, ◌+◌, Bool, true, false, List, [], ◌∷◌, ◌++◌, length, encode_utf8, encode_utf8_all, IsUtf8, ap, ◌∙◌, arith, length-append, nil_from_length, chars_past_char, IsUtf8-past_char, length-encode, chars-nil, len_utf8, front}
use Rattle.std.proofs.Common.{chars}
use Rattle.mail_words.proofs.RunLemmas.{front-pass, front-fail}

-- the text was read by this many bytes, up to this rest
pub record IsRead (text : List ℕ) (len : ℕ) (rest : List ℕ) : Type 0 where
  pub utf8 : IsUtf8 rest
  pub lengths : len + length rest ≡ length text

is_read-step : (text : List ℕ) (len : ℕ) (rest : List ℕ) (c : ℕ) (rest' : List ℕ) → IsRead text len rest → rest
    ≡ encode_utf8 c ++ rest' → IsRead text (len + len_utf8 c) rest'
is_read-step text len rest c rest' h parts =
    record {
      utf8 = IsUtf8-past_char rest rest' c h.utf8 parts;
      lengths = omega (arith, h.lengths, ap length parts, length-append (encode_utf8 c) rest', length-encode c);
    }

pub no_chars : (rest : List ℕ) → length rest ≡ 0 → chars rest ≡ []
no_chars rest none = grind (arith, nil_from_length, chars-nil)

-- ---- the characters at the front that pass

pub record FrontRead (p : ℕ → Bool) (text : List ℕ) (len : ℕ) (rest : List ℕ) : Type 0 where
  pub read : IsRead text len rest
  pub whole : length (encode_utf8_all (front p (chars text))) ≡ len + length (encode_utf8_all (front p (chars rest)))

pub front_read-start : (p : ℕ → Bool) (text rest : List ℕ) → IsUtf8 text → rest ≡ text → FrontRead p text 0 rest
front_read-start p text rest utf8 same = grind arith

pub front_read-pass : (p : ℕ → Bool) (text : List ℕ) (len : ℕ) (rest : List ℕ) (c : ℕ) (rest' : List ℕ)
    → FrontRead p text len rest → rest ≡ encode_utf8 c ++ rest' → p c ≡ true
    → FrontRead p text (len + len_utf8 c) rest'
front_read-pass p text len rest c rest' h parts passes =
    let next = chars_past_char rest rest' c h.read.utf8 parts in
    let fore = ap (λ cs. length (encode_utf8_all cs)) (ap (front p) next ∙ front-pass p c (chars rest') passes) in
    record {
      read = is_read-step text len rest c rest' h.read parts;
      whole = omega (
        arith,
        h.whole,
        fore,
        length-append (encode_utf8 c) (encode_utf8_all (front p (chars rest'))),
        length-encode c,
      );
    }

pub front_read-stop : (p : ℕ → Bool) (text : List ℕ) (len : ℕ) (rest : List ℕ) (c : ℕ) (rest' : List ℕ)
    → FrontRead p text len rest → rest ≡ encode_utf8 c ++ rest' → p c ≡ false
    → len ≡ length (encode_utf8_all (front p (chars text)))
front_read-stop p text len rest c rest' h parts stops =
    let next = chars_past_char rest rest' c h.read.utf8 parts in
    omega (
      arith,
      h.whole,
      ap (λ cs. length (encode_utf8_all cs))
          (ap (front p) next ∙ front-fail p (c ∷ chars rest') stops),
    )

pub front_read-end : (p : ℕ → Bool) (text : List ℕ) (len : ℕ) (rest : List ℕ) → FrontRead p text len rest → length rest
    ≡ 0 → len ≡ length (encode_utf8_all (front p (chars text)))
front_read-end p text len rest h none = omega
    (arith, h.whole, ap (λ cs. length (encode_utf8_all (front p cs))) (no_chars rest none))
