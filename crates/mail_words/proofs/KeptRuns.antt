-- Loops that count the bytes of the front that folding leaves as it is: ASCII and letters beyond it, by turns.
use Rattle.mail_words.proofs.Imports.{◌≡◌, ℕ, ◌+◌, ◌<◌, ◌≤◌, Bool, false, List, [], ◌∷◌, ◌++◌, length, drop, get_or, encode_utf8_all, IsUtf8, refl, ◌∙◌, arith, length-append, encodes-append, encodes-chars, encode_ascii, IsCharBoundary, front}
use Rattle.std.proofs.Common.{chars}
use Rattle.std.proofs.lemmas.Str.{IsUtf8-drop}
use Rattle.mail_words.specs.Inside.Folds.{keeps_itself, is_kept_byte, is_kept_letter}
use Rattle.mail_words.proofs.FoldingLemmas.{kept_byte}
use Rattle.mail_words.proofs.FrontReads.{FrontRead}
use Rattle.mail_words.proofs.RunLemmas.{front-fail, front-after}
use Rattle.mail_words.proofs.Seams.{front_seam, seam_boundary, nil_from_bytes}

pub front_read-chain : (p : ℕ → Bool) (text rest after : List ℕ) (at n : ℕ) → FrontRead p text at rest
    → FrontRead p rest n after → FrontRead p text (at + n) after
front_read-chain p text rest after at n h h2 =
    grind arith

-- ---- letters beyond ASCII

front-over : (cs after : List ℕ) → front keeps_itself (front is_kept_letter cs ++ after)
    ≡ front is_kept_letter cs ++ front keeps_itself after
front-over [] after = refl
front-over (c ∷ cs) after = grind (arith, front-over cs after)

pub letters_boundary : (text : List ℕ) (n : ℕ) → IsUtf8 text → n
    ≡ length (encode_utf8_all (front is_kept_letter (chars text))) → IsCharBoundary text n
letters_boundary text n utf8 place = seam_boundary _ _ _ n (front_seam is_kept_letter text utf8) place

pub kept_letters : (text after : List ℕ) (n : ℕ) → IsUtf8 text → n
    ≡ length (encode_utf8_all (front is_kept_letter (chars text))) → after ≡ drop n text
    → FrontRead keeps_itself text n after
kept_letters text after n utf8 place is =
    let fore : List ℕ = front is_kept_letter (chars text) in
    let cut = front_seam is_kept_letter text utf8 in
    let whole : chars text ≡ fore ++ chars after = grind (arith, front-after) in
    grind (arith, front-over, IsUtf8-drop, encodes-append, length-append)

-- ---- the end

-- nothing is kept after a byte and before a letter that aren't
pub kept_none : (text : List ℕ) → IsUtf8 text → (0 < length text → is_kept_byte (get_or text 0 0) ≡ false)
    → length (encode_utf8_all (front is_kept_letter (chars text))) ≡ 0
    → front keeps_itself (chars text) ≡ []
kept_none text utf8 byte none = go (chars text) (encodes-chars text utf8)
    (nil_from_bytes (front is_kept_letter (chars text)) none)
  where
    go : (cs : List ℕ) → encode_utf8_all cs ≡ text → front is_kept_letter cs ≡ [] → front keeps_itself cs ≡ []
    go cs h h2 = grind (arith, encode_ascii, front-fail, kept_byte)
