-- Bytes that are written a piece at a time: what was written and what is left are always all of them.
use Rattle.std.proofs.Common.{◌≡◌, ◌∙◌, ℕ, ◌+◌, List, ◌++◌, take, drop, ap, sym, append_assoc, take-add}
use Rattle.std.proofs.lemmas.List.{take-append-drop}

-- one piece more was written
pub more_written : (before now next bytes : List ℕ) (count n : ℕ) → now ≡ before ++ take count bytes
    → next ≡ now ++ take n (drop count bytes) → next ≡ before ++ take (count + n) bytes
more_written before now next bytes count n so_far more =
    more ∙ ap (λ l. l ++ take n (drop count bytes)) so_far
    ∙ append_assoc before (take count bytes) (take n (drop count bytes))
    ∙ ap (λ l. before ++ l) (sym (take-add count n bytes))

-- what was written is no longer gathered
pub still_put : (before next gathered left : List ℕ) (n : ℕ) → next ≡ before ++ take n gathered
    → left ≡ drop n gathered → next ++ left ≡ before ++ gathered
still_put before next gathered left n written rest =
    ap (λ l. l ++ left) written ∙ ap (λ l. (before ++ take n gathered) ++ l) rest
    ∙ append_assoc before (take n gathered) (drop n gathered) ∙ ap (λ l. before ++ l) (take-append-drop n gathered)
