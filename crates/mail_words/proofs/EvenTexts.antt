-- Texts that are folded as a whole, piece by piece.
use Rattle.mail_words.proofs.Imports.{◌≡◌, ℕ, ◌+◌, Bool, true, false, ◌&&◌, List, [], ◌∷◌, ◌++◌, length, take, drop, encode_utf8, encode_utf8_all, IsUtf8, refl, ap, ◌∙◌, arith, append_assoc, length-append, list_all-append, encodes-append, chars_past_char, IsUtf8-past_char, IsCharBoundary, nil_from_length, chars-nil, and_parts, length-encode, len_utf8, list_all, front, after_front, folding}
use Rattle.std.proofs.Common.{chars, append-nil}
use Rattle.std.proofs.lemmas.Str.{IsUtf8-drop}
use Rattle.caseless.proofs.CaselessLemmas.{default_case_fold-nil, default_case_fold-cons, default_case_fold-append}
use Rattle.ucd_case.specs.CaseFolding.{full_fold}
use Rattle.mail_words.specs.Folding.{folds_evenly}
use Rattle.mail_words.specs.Inside.Folds.{keeps_itself}
use Rattle.mail_words.proofs.FoldingLemmas.{keeps_characters}
use Rattle.mail_words.proofs.EvenFolding.{even-kept}
use Rattle.mail_words.proofs.RunLemmas.{front-pass, front-fail, front-after}
use Rattle.mail_words.proofs.Seams.{front_seam, seam_boundary, seam_front, chars_back}

-- these bytes are the folding of the text up to this rest
pub record FoldsSoFar (text into rest : List ℕ) : Type 0 where
  pub even : list_all folds_evenly (chars text) ≡ list_all folds_evenly (chars rest)
  pub folds : into ++ folding rest ≡ folding text
  pub lengths : length into + length rest ≡ length text
  pub utf8 : IsUtf8 rest

pub folds-same : (text into into' rest rest' : List ℕ) → FoldsSoFar text into rest → into' ≡ into → rest' ≡ rest
    → FoldsSoFar text into' rest'
folds-same text into into' rest rest' h same same_rest =
    grind arith

pub piece_boundary : (rest : List ℕ) (n : ℕ) → IsUtf8 rest → n
    ≡ length (encode_utf8_all (front keeps_itself (chars rest))) → IsCharBoundary rest n
piece_boundary rest n utf8 place = seam_boundary _ _ _ n (front_seam keeps_itself rest utf8) place

-- ---- a piece that folding leaves as it is

all-front : (p : ℕ → Bool) (cs : List ℕ) → list_all p (front p cs) ≡ true
all-front p [] = refl
all-front p (c ∷ cs) = grind (arith, front-pass, front-fail, all-front p cs)

even-all : (cs : List ℕ) → list_all keeps_itself cs ≡ true → list_all folds_evenly cs ≡ true
even-all [] h = refl
even-all (c ∷ cs) h =
    grind (arith, even-kept, even-all cs)

pub folds-piece : (text into rest kept after : List ℕ) (n : ℕ) → FoldsSoFar text into rest → n
    ≡ length (encode_utf8_all (front keeps_itself (chars rest)))
    → kept ≡ take n rest → after ≡ drop n rest → FoldsSoFar text (into ++ kept) after
folds-piece text into rest kept after n h place is is_after =
    let fore : List ℕ = front keeps_itself (chars rest) in
    let cut = front_seam keeps_itself rest h.utf8 in
    let kept_is = seam_front _ _ _ n kept cut place is in
    let left : chars after ≡ after_front keeps_itself (chars rest) = chars_back _ _ _ n after cut place is_after in
    let whole : chars rest ≡ fore ++ chars after = grind (arith, front-after) in
    grind (
      arith,
      all-front,
      default_case_fold-append,
      keeps_characters,
      encodes-append,
      list_all-append,
      even-all,
      append_assoc,
      length-append,
      IsUtf8-drop,
    )

-- ---- a character that folds evenly

same-length : (c d : ℕ) → folds_evenly c ≡ true → full_fold c ≡ d ∷ [] → len_utf8 c ≡ len_utf8 d
same-length c d e is =
    grind (arith, and_parts)

pub folds-character : (text into after rest : List ℕ) (c d : ℕ) → FoldsSoFar text into after → after
    ≡ encode_utf8 c ++ rest → folds_evenly c ≡ true → full_fold c ≡ d ∷ []
    → FoldsSoFar text (into ++ encode_utf8 d) rest
folds-character text into after rest c d h parts e is =
    let next = chars_past_char after rest c h.utf8 parts in
    let folded : folding after ≡ encode_utf8 d ++ folding rest =
    grind (arith, default_case_fold-cons) in
    record {
      even = grind arith;
      folds = grind (arith, append_assoc);
      lengths = omega (
        arith,
        length-append into (encode_utf8 d),
        ap length parts,
        length-append (encode_utf8 c) rest,
        length-encode c,
        length-encode d,
        same-length c d e is,
      );
      utf8 = IsUtf8-past_char after rest c h.utf8 parts;
    }

-- a character that doesn't
pub folds-uneven : (text into after rest : List ℕ) (c : ℕ) → FoldsSoFar text into after → after
    ≡ encode_utf8 c ++ rest → folds_evenly c ≡ false
    → false ≡ list_all folds_evenly (chars text)
folds-uneven text into after rest c h parts e =
    cc (h.even, chars_past_char after rest c h.utf8 parts)

-- ---- the end

folding-nil : folding [] ≡ []
folding-nil = grind (arith, chars-nil, default_case_fold-nil)

pub folds-even : (text into rest : List ℕ) → FoldsSoFar text into rest → length rest ≡ 0 → true
    ≡ list_all folds_evenly (chars text)
folds-even text into rest h few =
    grind (arith, nil_from_length, chars-nil)

pub folds-end : (text into rest : List ℕ) → FoldsSoFar text into rest → length rest ≡ 0 → into ≡ folding text
folds-end text into rest h few =
    grind (arith, nil_from_length, append-nil, folding-nil)
