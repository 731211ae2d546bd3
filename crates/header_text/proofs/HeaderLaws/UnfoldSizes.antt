-- An unfolded body is no longer than the body, because bytes are only dropped.
use Rattle.header_text.proofs.Words.{◌≤◌, ◌==◌, ℕ, suc, Bool, true, false, List, [], ◌∷◌, length, ap, arith, length-append, after_blanks, before_blanks, without_breaks, unfolded_body}
use Rattle.header_text.proofs.Fronts.{after_blanks-joined, before_blanks-joined}

-- a byte before others, which is dropped or kept
kept : ℕ → List ℕ → Bool → List ℕ
kept b bs t = elim t [ true ↦ bs | false ↦ b ∷ bs ]

length-kept : (b : ℕ) (bs : List ℕ) (t : Bool) (n : ℕ) → length bs ≤ n → length (kept b bs t) ≤ suc n
unfolding kept
length-kept b bs t n h = grind arith

length-without_breaks : (bs : List ℕ) → length (without_breaks bs) ≤ length bs
unfolding kept
length-without_breaks [] = omega arith
length-without_breaks (b ∷ []) = length-kept b [] (b == 0x0A) 0 (omega arith)
length-without_breaks (b ∷ c ∷ bs) = grind (arith, length-kept, length-without_breaks (c ∷ bs))

length-after_blanks : (bs : List ℕ) → length (after_blanks bs) ≤ length bs
length-after_blanks bs =
    let whole = after_blanks-joined bs in
    omega (arith, ap length whole.1, length-append whole.0 (after_blanks bs))

length-before_blanks : (bs : List ℕ) → length (before_blanks bs) ≤ length bs
length-before_blanks bs =
    let whole = before_blanks-joined bs in
    omega (arith, ap length whole.1, length-append (before_blanks bs) whole.0)

pub length-unfolded : (body : List ℕ) → length (unfolded_body body) ≤ length body
unfolding unfolded_body
length-unfolded body = grind (arith, length-before_blanks, length-after_blanks, length-without_breaks)
