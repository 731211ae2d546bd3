-- What a line sets, by what a reader finds in it.
use Rattle.mairix_options.proofs.Words.{◌≡◌, ℕ, ◌+◌, ◌≤◌, ◌==◌, Option, List, [], length, Err, refl, sym, ap, ◌∙◌, arith, before_first, after_first, position_or_len, IsUtf8, or_right, false_from_ne_true, drop_all, is_utf8-from_IsUtf8, IsUtf8-from_is_utf8, text_without_blanks, entry, assignment, BadLine}

pub entry-not_utf8 : (base : Option (List ℕ)) (n : ℕ) (text : List ℕ) → ¬ (IsUtf8 text) → entry base n text
    ≡ Err (BadLine n)
entry-not_utf8 base n text broken = grind (arith, false_from_ne_true, IsUtf8-from_is_utf8)

pub entry-assigned : (base : Option (List ℕ)) (n : ℕ) (text option value : List ℕ) → IsUtf8 text
    → option ≡ text_without_blanks (before_first (λ b. b == 61) text) → value
    ≡ text_without_blanks (after_first (λ b. b == 61) text)
    → entry base n text ≡ assignment base n option value
entry-assigned base n text option value whole is_option is_value = grind (arith, is_utf8-from_IsUtf8)

assigned-nothing : (base : Option (List ℕ)) (n : ℕ) (option : List ℕ) → assignment base n option [] ≡ Err (BadLine n)
assigned-nothing base n option = grind (arith, or_right)

trimmed-nil : text_without_blanks [] ≡ []
unfolding text_without_blanks
trimmed-nil = refl

-- a line without `=`
pub entry-no_value : (base : Option (List ℕ)) (n : ℕ) (text : List ℕ) → IsUtf8 text
    → position_or_len (λ b. b == 61) text ≡ length text → entry base n text ≡ Err (BadLine n)
entry-no_value base n text whole none =
    let past : length text ≤ position_or_len (λ b. b == 61) text + 1 = omega arith in
    let after : after_first (λ b. b == 61) text ≡ [] = drop_all (position_or_len (λ b. b == 61) text + 1) text past in
    entry-assigned base n text (text_without_blanks (before_first (λ b. b == 61) text)) [] whole refl
    (sym (ap text_without_blanks after ∙ trimmed-nil))
    ∙ assigned-nothing base n (text_without_blanks (before_first (λ b. b == 61) text))
