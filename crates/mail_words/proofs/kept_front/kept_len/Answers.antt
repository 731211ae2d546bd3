-- `kept_len` reads on by loads and by letters, by turns, until the next character isn't kept or the text ends.
use Rattle.mail_words.proofs.Imports.{◌≡◌, ◌+◌, ◌-◌, ◌<◌, true, false, List, ℕ, length, drop, get_or, ◌∙◌, arith, nat_tests}
use Rattle.std.proofs.lemmas.List.{get_or-drop, length-drop}
use Rattle.mail_words.specs.Inside.Folds.{keeps_itself, is_kept_byte, is_capital_or_first}
use Rattle.mail_words.proofs.FrontReads.{FrontRead}
use Rattle.mail_words.proofs.KeptPairs.{kept_quick}
use Rattle.mail_words.proofs.KeptRuns.{kept_letters, letters_boundary, kept_none}
use Rattle.mail_words.proofs.kept_front.kept_len.Goals as goal

-- the same read, at the place counted from the end
from_end : (text rest : List ℕ) (at : ℕ) → FrontRead keeps_itself text at rest
    → FrontRead keeps_itself text (length text - length rest) rest
from_end text rest at h = grind arith

apart : (b : ℕ) → is_capital_or_first b ≡ true → is_kept_byte b ≡ false
apart b h = grind (arith, h, nat_tests)

-- the first byte of the rest isn't kept
first_after : (text bytes after : List ℕ) (n : ℕ) → bytes ≡ text → after ≡ drop n text
    → (n < length bytes → is_capital_or_first (get_or bytes n 0) ≡ true) → 0 < length after
    → is_kept_byte (get_or after 0 0) ≡ false
first_after text bytes after n same is end some =
    grind (arith, get_or-drop, length-drop)

pub returns-then-letters-eq0 : goal.returns-then-letters-eq0
returns-then-letters-eq0 c =
    let inv = c.runs.invariant.1 in
    let quick = kept_quick _ _ _ _ inv.read.utf8 c.as_bytes.ensures.value c.quick_len.ensures.within
    c.quick_len.ensures.passed c.quick_len.ensures.end c.split_at.ensures.back in
    grind (arith, first_after, kept_none)

pub split_at-requires-in-runs : goal.split_at-requires-in-runs
split_at-requires-in-runs c =
    let quick = kept_quick _ _ _ _ c.runs.invariant.1.read.utf8 c.as_bytes.ensures.value c.quick_len.ensures.within
    c.quick_len.ensures.passed c.quick_len.ensures.end c.split_at.ensures.back in
    letters_boundary _ _ quick.read.utf8 c.letters_len-letters.ensures

pub runs-preserved : goal.runs-preserved
runs-preserved c =
    let inv = c.runs.invariant.1 in
    let quick = kept_quick _ _ _ _ inv.read.utf8 c.as_bytes.ensures.value c.quick_len.ensures.within
    c.quick_len.ensures.passed c.quick_len.ensures.end c.split_at.ensures.back in
    grind (arith, kept_letters)
