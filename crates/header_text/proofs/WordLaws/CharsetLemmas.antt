-- The charset of a label, found in a table, and the size of a character.
use Rattle.header_text.proofs.CutLemmas.{split_while-cut, split_while-free}
use Rattle.header_text.proofs.Words.{◌≡◌, ◌∙◌, Option, Some, None, Bor, sym, option_map, unwrap_or, plain_label, cut_at, ◌<◌, ℕ, zero, suc, true, nat_lt, List, [], ◌∷◌, get_or, arith, list_all, charset_named, charset_of, is_named, Bool, refl, length, drop, add-one, if◌then◌else◌, ◌+◌, Charset, Unknown}
use Rattle.std.specs.Prelude.{slice_index_or}

-- the label before its first `*`, or the whole label if it has none
before_star : (label e : Bor (List ℕ)) (o : Option (Bor (List ℕ) × Bor (List ℕ)))
    → option_map (λ p. (p.0.now, p.1.now)) o ≡ cut_at 0x2A label.now → (unwrap_or o (label, e)).0.now
    ≡ plain_label label.now
before_star label e None h = sym (split_while-free 0x2A label.now (sym h))
before_star label e (Some (front, rest)) h = grind (arith, split_while-cut)

pub charset_of-named : (label e : Bor (List ℕ)) (o : Option (Bor (List ℕ) × Bor (List ℕ)))
    → option_map (λ p. (p.0.now, p.1.now)) o ≡ cut_at 0x2A label.now → (name : List ℕ) → name
    ≡ (unwrap_or o (label, e)).0.now → charset_named name ≡ charset_of label.now
unfolding charset_of
charset_of-named label e o h name n = cc (n, before_star label e o h)

-- the charset of a label in a table, by the first label that fits
abbrev pub labelled : List (Bor (List ℕ) × Charset) → List ℕ → Charset
labelled [] name = Unknown
labelled (x ∷ xs) name = if is_named name x.0.now then x.1 else labelled xs name

-- the entry at a place fits, or the result depends on those after it
pub labelled-at : (xs : List (Bor (List ℕ) × Charset)) (i : ℕ) (d : Bor (List ℕ) × Charset) (name : List ℕ)
    (fits : Bool) → i < length xs → fits ≡ is_named name (slice_index_or xs i d).0.now → labelled (drop i xs) name
    ≡ (if fits then (slice_index_or xs i d).1 else labelled (drop (i + 1) xs) name)
labelled-at [] i d name fits h e = absurd (omega arith)
labelled-at (x ∷ xs) zero d name fits h e = rw e refl
labelled-at (x ∷ xs) (suc i) d name fits h e =
    rw (add-one (suc i)) (labelled-at xs i d name fits (omega arith) e ∙ rw (add-one i) refl)

-- the characters of a table have at most three bytes each
pub small-at : (xs : List ℕ) → list_all (λ x. nat_lt x 65536) xs ≡ true → (i : ℕ) → get_or xs i 0 < 65536
small-at [] h i = omega arith
small-at (x ∷ xs) h zero = grind arith
small-at (x ∷ xs) h (suc i) = grind (arith, small-at xs)
