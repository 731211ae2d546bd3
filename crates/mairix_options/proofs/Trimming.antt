-- Cutting the blanks off the ends of a text leaves a text, because the cuts are at boundaries of characters.
use Rattle.mairix_options.proofs.Words.{◌≡◌, ℕ, ◌-◌, ◌<◌, ◌≤◌, true, List, length, take, drop, reverse, get_or, ap, ◌∙◌, subst, arith, ⊎_elim, prefix_len, suffix_len, IsUtf8, IsCharBoundary, cases_lt, nat_tests, get_or-reverse, prefix_len_passes, prefix_len-le-length, suffix_len-le-length, IsCharBoundary-start, IsCharBoundary-end, IsCharBoundary-after_ascii, IsCharBoundary-before_ascii, is_blank, text_without_blanks}

pub trimmed-parts : (text rest kept : List ℕ) (front end : ℕ) → front ≡ prefix_len is_blank text → rest
    ≡ drop front text
    → end ≡ suffix_len is_blank rest → kept ≡ take (length rest - end) rest → kept ≡ text_without_blanks text
unfolding text_without_blanks
trimmed-parts text rest kept front end counts_front is_rest counts_end is_kept =
    is_kept
    ∙ ap (λ n. take (length rest - n) rest) counts_end
    ∙ ap (λ l. take (length l - suffix_len is_blank l) l) (is_rest ∙ ap (λ n. drop n text) counts_front)

blank_is_ascii : (b : ℕ) → is_blank b ≡ true → b < 128
blank_is_ascii b blank = grind (arith, nat_tests)

-- a text can be cut after the blanks at its front
pub IsCharBoundary-blanks : (text : List ℕ) (n : ℕ) → IsUtf8 text → n ≡ prefix_len is_blank text → IsCharBoundary text n
IsCharBoundary-blanks text n utf8 counts =
    ⊎_elim
    (λ some.
    let within : n ≤ length text = omega (arith, prefix_len-le-length is_blank text) in
    let blank = prefix_len_passes is_blank text (n - 1) 0 (omega arith) in
    let cut = IsCharBoundary-after_ascii text (n - 1) utf8 (omega arith) (blank_is_ascii _ blank) in
    subst (IsCharBoundary text) (omega arith) cut)
    (λ none. subst (IsCharBoundary text) (omega arith) (IsCharBoundary-start text utf8))
    (cases_lt 0 n)

-- a text can be cut before the blanks at its end
pub IsCharBoundary-end_blanks : (text : List ℕ) (n : ℕ) → n ≡ suffix_len is_blank text
    → IsCharBoundary text (length text - n)
IsCharBoundary-end_blanks text n counts =
    ⊎_elim
    (λ some.
    let within : n ≤ length text = omega (arith, suffix_len-le-length is_blank text) in
    let blank = prefix_len_passes is_blank (reverse text) (n - 1) 0 (omega arith) in
    let at : get_or (reverse text) (n - 1) 0 ≡ get_or text (length text - 1 - (n - 1)) 0 =
    get_or-reverse text (n - 1) 0 (omega arith) in
    let place : length text - 1 - (n - 1) ≡ length text - n = omega arith in
    IsCharBoundary-before_ascii text (length text - n) (omega arith)
    (blank_is_ascii _ (subst (λ (b : ℕ). is_blank b ≡ true) (at ∙ ap (λ k. get_or text k 0) place) blank)))
    (λ none. subst (IsCharBoundary text) (omega arith) (IsCharBoundary-end text))
    (cases_lt 0 n)
