-- The first changed archive is found by going from one archive to the next.
use Rattle.mail_answer.proofs.Words.{◌≡◌, ℕ, ◌+◌, suc, ◌<◌, ◌≤◌, ◌==◌, cond, min, List, [], ◌∷◌, length, length-drop, drop, drop-cons, get_or, Option, None, Some, IfSome, zero, refl, ap, add-one, arith, ne_eqb, Archive, archive_at, first_changed, stale_archive, length_in_table}
use Rattle.std.proofs.lemmas.Bool.{eq-eqb}

no_archive : Archive
no_archive = record { path = []; length = 0; digest = None }

length_in : (named : List Archive) (n : ℕ) → n < length named → length_in_table named n
    ≡ (get_or named n no_archive).length
length_in [] n h = absurd (omega arith)
length_in (a ∷ rest) zero h = refl
length_in (a ∷ rest) (suc n) h = length_in rest n (omega arith)

-- the next of the indexed archives
pub next_named : (named : List Archive) (n : ℕ) (a : Archive) (rest : List Archive) → drop n named ≡ a ∷ rest
    → (length_in_table named n ≡ a.length) × (drop (n + 1) named ≡ rest)
next_named [] zero a rest e = absurd cc
next_named [] (suc n) a rest e = absurd cc
next_named (b ∷ named) zero a rest e = grind arith
next_named (b ∷ named) (suc n) a rest e = grind (arith, next_named named n a _ e)

pub still_named : (named : List Archive) (n : ℕ) → n < length named → drop n named ≡ [] → ⊥
still_named named n h e = let long = ap length e
    in absurd (omega (arith, long, length-drop n named))

pub named_here : (named : List Archive) (n : ℕ) (a : Archive) (rest : List Archive) → drop n named ≡ a ∷ rest
    → n < length named
named_here named n a rest e = let long = ap length e
    in omega (arith, long, length-drop n named)

pub none_left : (named : List Archive) (n : ℕ) → n ≤ length named → drop n named ≡ [] → n ≡ length named
none_left named n h e = let long = ap length e in omega (arith, long, length-drop n named)

-- the result at an archive, and at those after it
changed_next : (named : List Archive) (bytes : List (List ℕ)) (n : ℕ) → n < length named → n < length bytes
    → first_changed n (drop n named) (drop n bytes)
    ≡ cond (length (archive_at bytes n) == length_in_table named n)
    (first_changed (n + 1) (drop (n + 1) named) (drop (n + 1) bytes)) (Some n)
changed_next = grind (arith, drop-cons, no_archive, length_in, add-one)

pub goes_on : (named : List Archive) (held : Option (List (List ℕ))) (n number : ℕ) → n < length named → number
    ≡ length named
    → IfSome held (λ bytes. length bytes ≡ number)
    → IfSome held (λ bytes. first_changed 0 named bytes ≡ first_changed n (drop n named) (drop n bytes))
    → IfSome held (λ bytes. length_in_table named n ≡ length (archive_at bytes n))
    → IfSome held (λ bytes. first_changed 0 named bytes
    ≡ first_changed (n + 1) (drop (n + 1) named) (drop (n + 1) bytes))
goes_on = grind (arith, eq-eqb, changed_next)

pub other_count : (named : List Archive) (held : Option (List (List ℕ))) (number : ℕ) → (number ≡ length named → ⊥)
    → IfSome held (λ bytes. length bytes ≡ number)
    → IfSome held (λ bytes. stale_archive named bytes ≡ Some (min number (length named)))
other_count = grind (arith, ne_eqb)
