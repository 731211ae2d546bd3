-- Laws of foldings, and of a folding that isn't written to its end yet.
use Rattle.mail_words.proofs.Imports.{◌≡◌, ℕ, true, not, beq, same_from_beq, list_all, ◌*◌, ◌≤◌, List, [], ◌∷◌, ◌++◌, length, None, Some, encode_utf8, encode_utf8_all, IsAscii, IsUtf8, refl, ap, ◌∙◌, ◌<◌, arith, append_assoc, length-append, cases_lt, chars-IsAscii, encodes-IsAscii, encodes-chars, length-le-encodes, Chars-gives, len_utf8_bounds, length-encode, IsAscii-map, lowercase_ascii, to_ascii_lowercase, chars_rest, chars_steps, folding}
use Rattle.std.proofs.Common.{map, chars, append-nil}
use Rattle.std.specs.declared.str.Chars.{Chars}
use Rattle.std.specs.Iterator.{AlwaysYields}
use Rattle.caseless.specs.Caseless.{default_case_fold}
use Rattle.caseless.specs.CaseFold.{FoldsCaseTo, CaseFoldSteps}
use Rattle.caseless.specs.declared.CaseFold.{CaseFold}
use Rattle.unicode.specs.CaseFolding.{full_fold}
use Rattle.mail_words.specs.Inside.Folds.{keeps_itself}
use Rattle.std.specs.Char.{is_ascii_uppercase}
use Rattle.std.specs.Prelude.{nat_eq}
use Rattle.ucd_case.specs.CaseFolding.{full_folding}
use Rattle.ucd_case.proofs.CaseFoldingLemmas.{full_folding_stepped}
use Rattle.unicode.proofs.TableComputing.{tables}
use Rattle.unicode.proofs.Facts.{Stepped-below}
use Rattle.caseless.proofs.CaselessLemmas.{default_case_fold-ascii, default_case_fold-nil, default_case_fold-cons, All-chars, length-default_case_fold, full_fold-none, full_fold-some}

-- in ASCII only the capital letters change
pub folding-ascii : (text : List ℕ) → IsAscii text → folding text ≡ map to_ascii_lowercase text
folding-ascii text ascii = grind (
  arith,
  encode_utf8_all,
  default_case_fold-ascii,
  All-chars,
  chars-IsAscii,
  encodes-IsAscii,
  IsAscii-map,
  lowercase_ascii,
)

length-encodes-le : (cs : List ℕ) → length (encode_utf8_all cs) ≤ 4 * length cs
length-encodes-le [] = omega arith
length-encodes-le (c ∷ cs) = grind (
  arith,
  length-append,
  encode_utf8,
  encode_utf8_all,
  length-encode,
  len_utf8_bounds,
  length-encodes-le cs,
)

pub length-folding : (text : List ℕ) → IsUtf8 text → length (folding text) ≤ 8 * length text
length-folding text utf8 = grind (arith, length-encodes-le, length-default_case_fold, encodes-chars)

full_fold_some : (c : ℕ) → 1 ≤ length (full_fold c)
full_fold_some c = grind (arith, cases_lt, full_fold-none, full_fold-some)

folds_to_some : (cs : List ℕ) → 1 ≤ length cs → 1 ≤ length (encode_utf8_all (default_case_fold cs))
folds_to_some [] some = absurd (omega arith)
folds_to_some (c ∷ cs) some =
    omega (
      arith,
      ap length (default_case_fold-cons c cs),
      length-append (full_fold c) (default_case_fold cs),
      full_fold_some c,
      length-le-encodes (default_case_fold (c ∷ cs)),
    )

has_chars : (cs : List ℕ) → 1 ≤ length (encode_utf8_all cs) → 1 ≤ length cs
has_chars [] some = absurd (omega arith)
has_chars (c ∷ cs) some = omega arith

pub folding_some : (text : List ℕ) → IsUtf8 text → 1 ≤ length text → 1 ≤ length (folding text)
folding_some text utf8 some = grind (arith, folds_to_some, has_chars, encodes-chars)

-- ---- a text that folding leaves as it is

-- of ASCII, folding leaves all but capital letters
pub kept_byte : (b : ℕ) → b < 128 → keeps_itself b ≡ not (is_ascii_uppercase b)
unfolding tables full_folding_stepped
kept_byte b below =
    same_from_beq _ _ (Stepped-below full_folding full_folding_stepped
    (λ x v. beq (nat_eq (length v) 0) (not (is_ascii_uppercase x))) 128 refl b below)

pub keeps_characters : (cs : List ℕ) → list_all keeps_itself cs ≡ true → default_case_fold cs ≡ cs
keeps_characters [] all = default_case_fold-nil
keeps_characters (c ∷ cs) all =
    grind (arith, default_case_fold-cons, keeps_characters cs)

pub folding-same : (text : List ℕ) → IsUtf8 text → list_all keeps_itself (chars text) ≡ true → folding text ≡ text
folding-same text utf8 all = grind (arith, keeps_characters, encodes-chars)

-- ---- a folding while it is written

-- the bytes written so far, and those of the characters that the iterator still has, are all bytes of the folding
pub record StillFolds (all written : List ℕ) (iterator : CaseFold Chars) : Type 0 where
  pub left : List ℕ
  pub source : FoldsCaseTo chars_steps iterator left
  pub whole : all ≡ written ++ encode_utf8_all left

pub folds_from_start : (before text : List ℕ) (source : Chars) (iterator : CaseFold Chars) → IsUtf8 text
    → chars_rest source ≡ text
    → ((cs : List ℕ) → AlwaysYields chars_steps (λ c. c) source cs
    → FoldsCaseTo chars_steps iterator (default_case_fold cs)) → StillFolds (before ++ folding text) before iterator
folds_from_start before text source iterator utf8 rest folds =
    grind (arith, Chars-gives, encodes-chars)

pub folds_further : (all written : List ℕ) (old new : CaseFold Chars) (c : ℕ) → StillFolds all written old
    → CaseFoldSteps chars_steps old (Some c) new
    → StillFolds all (written ++ encode_utf8 c) new
folds_further all written old new c h step =
    let next = step.first.at h.left h.source in
    grind (arith, append_assoc)

pub folds_to_end : (all written : List ℕ) (old new : CaseFold Chars) → StillFolds all written old
    → CaseFoldSteps chars_steps old None new → written ≡ all
folds_to_end all written old new h step =
    cc (h.whole, step.first.at h.left h.source, append-nil written)

-- the bytes written so far are no more than all
pub folds_within : (all written : List ℕ) (iterator : CaseFold Chars) → StillFolds all written iterator
    → length written ≤ length all
folds_within all written iterator h = omega (arith, ap length h.whole, length-append written (encode_utf8_all h.left))
