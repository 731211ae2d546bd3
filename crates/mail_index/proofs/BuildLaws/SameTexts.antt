-- Lists are the same if they have the same first n and the same last n items, because these cover the whole list.
use Rattle.mail_index.proofs.Words.{◌≡◌, ◌∙◌, ℕ, ◌+◌, ◌-◌, ◌≤◌, List, ◌++◌, length, take, drop, sym, ap₂, arith, take-append-drop, drop-drop}

-- the items after the first n, of a list of n to 2 * n: they are among the last n
after-first : (n : ℕ) (l : List ℕ) → n ≤ length l → length l ≤ n + n
    → drop (n - (length l - n)) (drop (length l - n) l) ≡ drop n l
after-first n l low high = grind (arith, drop-drop)

-- lists of the same length, n to 2 * n, with the same first n and the same last n items are the same
pub same-by-ends : (n : ℕ) (a b : List ℕ) → length a ≡ length b → n ≤ length a → length a ≤ n + n
    → take n a ≡ take n b → drop (length a - n) a ≡ drop (length b - n) b → a ≡ b
same-by-ends n a b same low high first last =
    let after = sym (after-first n a low high) ∙ ap₂ (λ (k : ℕ) (l : List ℕ). drop (n - (k - n)) l) same last
    ∙ after-first n b (omega arith) (omega arith) in
    cc (take-append-drop n b, take-append-drop n a)
