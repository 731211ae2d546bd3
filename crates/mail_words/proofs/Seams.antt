-- A text can be cut between any two of its characters.
use lib.Utf8.{scalar}
use Rattle.mail_words.proofs.Imports.{◌≡◌, ℕ, ◌+◌, ◌<◌, Bool, true, ◌&&◌, List, [], ◌∷◌, ◌++◌, length, take, drop, encode_utf8_all, IsUtf8, refl, sym, ap, ◌∙◌, arith, length-append, and_parts, encodes-append, encodes-chars, chars-encodes, scalars-chars, length-le-encodes, IsCharBoundary-at_seam, IsCharBoundary, front, after_front}
use Rattle.std.proofs.Common.{chars}
use Rattle.std.proofs.Math.Seq.{take-append_seam, drop-append_seam}
use Rattle.std.proofs.Math.Utf8.{scalars}
use Rattle.mail_words.proofs.RunLemmas.{front-after, is_some}

scalars-front : (xs ys : List ℕ) → scalars (xs ++ ys) ≡ true → scalars xs ≡ true
scalars-front [] ys h = refl
scalars-front (x ∷ xs) ys h =
    grind (arith, scalars-front xs ys)

scalars-back : (xs ys : List ℕ) → scalars (xs ++ ys) ≡ true → scalars ys ≡ true
scalars-back [] ys h = h
scalars-back (x ∷ xs) ys h = scalars-back xs ys (and_parts (scalar x) (scalars (xs ++ ys)) h).1

-- the text is cut after the characters xs and before ys
pub record IsSeam (text xs ys : List ℕ) : Type 0 where
  pub front : take (length (encode_utf8_all xs)) text ≡ encode_utf8_all xs
  pub back : drop (length (encode_utf8_all xs)) text ≡ encode_utf8_all ys
  pub boundary : IsCharBoundary text (length (encode_utf8_all xs))
  pub front_chars : chars (encode_utf8_all xs) ≡ xs
  pub back_chars : chars (encode_utf8_all ys) ≡ ys
  pub lengths : length text ≡ length (encode_utf8_all xs) + length (encode_utf8_all ys)

pub seam : (text xs ys : List ℕ) → IsUtf8 text → chars text ≡ xs ++ ys → IsSeam text xs ys
seam text xs ys utf8 parts = grind (
  arith,
  scalars,
  scalars-chars,
  encode_utf8_all,
  encodes-chars,
  encodes-append,
  take-append_seam,
  drop-append_seam,
  IsCharBoundary-at_seam,
  scalars-back,
  chars-encodes,
  scalars-front,
  length-append,
)

-- the same at a place given by its number of bytes
pub seam_boundary : (text xs ys : List ℕ) (n : ℕ) → IsSeam text xs ys → n ≡ length (encode_utf8_all xs)
    → IsCharBoundary text n
seam_boundary text xs ys n s place = grind arith

pub seam_front : (text xs ys : List ℕ) (n : ℕ) (part : List ℕ) → IsSeam text xs ys → n ≡ length (encode_utf8_all xs)
    → part ≡ take n text → part ≡ encode_utf8_all xs
seam_front text xs ys n part s place is = is ∙ ap (λ k. take k text) place ∙ s.front

pub seam_back : (text xs ys : List ℕ) (n : ℕ) (part : List ℕ) → IsSeam text xs ys → n ≡ length (encode_utf8_all xs)
    → part ≡ drop n text → part ≡ encode_utf8_all ys
seam_back text xs ys n part s place is = is ∙ ap (λ k. drop k text) place ∙ s.back

pub chars_front : (text xs ys : List ℕ) (n : ℕ) (part : List ℕ) → IsSeam text xs ys → n ≡ length (encode_utf8_all xs)
    → part ≡ take n text → chars part ≡ xs
chars_front text xs ys n part s place is = grind arith

pub chars_back : (text xs ys : List ℕ) (n : ℕ) (part : List ℕ) → IsSeam text xs ys → n ≡ length (encode_utf8_all xs)
    → part ≡ drop n text → chars part ≡ ys
chars_back text xs ys n part s place is = grind arith

-- the text can be cut after the characters that pass
pub front_seam : (p : ℕ → Bool) (text : List ℕ) → IsUtf8 text
    → IsSeam text (front p (chars text)) (after_front p (chars text))
front_seam p text utf8 = seam text (front p (chars text)) (after_front p (chars text)) utf8
    (sym (front-after p (chars text)))

-- there are characters if there are bytes
pub some_from_bytes : (cs : List ℕ) → 0 < length (encode_utf8_all cs) → is_some cs ≡ true
some_from_bytes cs h = grind arith

pub nil_from_bytes : (cs : List ℕ) → length (encode_utf8_all cs) ≡ 0 → cs ≡ []
nil_from_bytes [] h = refl
nil_from_bytes (c ∷ cs) h = absurd (omega (arith, h, length-le-encodes (c ∷ cs)))
