-- Reading text after text, each up to a `>`, gives the ids of a value.
use Rattle.header_text.proofs.Words.{◌≡◌, ◌∙◌, ◌+◌, ◌<◌, ◌≤◌, ◌++◌, ◌==◌, ℕ, zero, suc, Bool, true, false, List, [], ◌∷◌, Option, Some, None, length, drop, get_or, slice_index, map, refl, ap, subst, arith, filter, IfSome, Vec, length-map, get_or-map, ids_of, ids_size, onto_first, closed_texts, after_last_open, ids_of_texts}
use Rattle.std.specs.Global.{Global}
use Rattle.std.specs.Prelude.{All}
use Rattle.header_text.proofs.HeaderLaws.IdRanges.{ids_of-closed}
use Rattle.header_text.proofs.CutLemmas.{Lacks}

-- ---- after the last `<`

abbrev judged : ℕ → List ℕ → Option (List ℕ) → Option (List ℕ)
judged b bs o = elim o [ Some id ↦ Some id | None ↦ elim (b == 0x3C) [ true ↦ Some bs | false ↦ None ] ]

pub after_last_open-none : (bs : List ℕ) → ((k : ℕ) → k < length bs → (slice_index bs k == 0x3C) ≡ false)
    → after_last_open bs ≡ None
after_last_open-none [] h = refl
after_last_open-none (b ∷ bs) h = ap (judged b bs) (after_last_open-none bs (λ k lt. h (suc k) (omega arith)))
    ∙ rw (h 0 (omega arith), judged) refl

pub after_last_open-last : (bs : List ℕ) (at : ℕ) → at < length bs → (slice_index bs at == 0x3C) ≡ true
    → ((k : ℕ) → at + 1 ≤ k → k < length bs → (slice_index bs k == 0x3C) ≡ false)
    → after_last_open bs ≡ Some (drop (suc at) bs)
after_last_open-last [] at lt is after = absurd (omega arith)
after_last_open-last (b ∷ bs) zero lt is after =
    ap (judged b bs) (after_last_open-none bs (λ k l. after (suc k) (omega arith) (omega arith))) ∙ rw (is, judged) refl
after_last_open-last (b ∷ bs) (suc at) lt is after =
    grind (arith, after_last_open-last bs at (omega arith) is (λ k low high. after (suc k) (omega arith) (omega arith)))

-- ---- text by text

pub closed_texts-cut : (text after : List ℕ) → Lacks 0x3E text → closed_texts (text ++ 0x3E ∷ after)
    ≡ text ∷ closed_texts after
closed_texts-cut [] after free = refl
closed_texts-cut (b ∷ text) after free =
    grind (arith, closed_texts-cut text after free.1)

pub closed_texts-free : (text : List ℕ) → Lacks 0x3E text → closed_texts text ≡ []
closed_texts-free [] free = refl
closed_texts-free (b ∷ text) free = grind (arith, closed_texts-free text free.1)

-- ---- sizes

-- each has at least one byte, and at most this many
abbrev AreSized : ℕ → List (List ℕ) → Type 0
AreSized n [] = Unit {0}
AreSized n (id ∷ ids) = (0 < length id) × (length id ≤ n) × AreSized n ids

-- each has at most this many bytes
abbrev AreShort : ℕ → List (List ℕ) → Type 0
AreShort n [] = Unit {0}
AreShort n (t ∷ ts) = (length t ≤ n) × AreShort n ts

AreShort-more : (n m : ℕ) (ts : List (List ℕ)) → n ≤ m → AreShort n ts → AreShort m ts
AreShort-more n m [] le h = tt
AreShort-more n m (t ∷ ts) le h = (omega (arith, h.0), AreShort-more n m ts le h.1)

onto_first-short : (n b : ℕ) (ts : List (List ℕ)) → AreShort n ts → AreShort (suc n) (onto_first b ts)
onto_first-short n b ts h = grind (arith, AreShort-more)

closed_texts-short : (bs : List ℕ) → AreShort (length bs) (closed_texts bs)
closed_texts-short [] = tt
closed_texts-short (b ∷ bs) = grind (
  arith,
  closed_texts-short bs,
  AreShort-more (length bs) (suc (length bs)) (closed_texts bs),
  onto_first-short (length bs) b (closed_texts bs),
)

after_last_open-short : (bs : List ℕ) → IfSome (after_last_open bs) (λ t. length t < length bs)
after_last_open-short [] = tt
after_last_open-short (b ∷ bs) = grind (arith, after_last_open-short bs)

filter-short : (p : ℕ → Bool) (xs : List ℕ) → length (filter p xs) ≤ length xs
filter-short p [] = omega arith
filter-short p (x ∷ xs) = grind (arith, filter-short p xs)

ids_in-sized : (n : ℕ) (ts : List (List ℕ)) → AreShort n ts → AreSized n (ids_of_texts ts)
ids_in-sized n [] h = tt
ids_in-sized n (t ∷ ts) h = go (after_last_open t) refl (after_last_open-short t) (ids_in-sized n ts h.1)
  where
    go : (o : Option (List ℕ)) → after_last_open t ≡ o → IfSome (after_last_open t) (λ u. length u < length t)
        → AreSized n (ids_of_texts ts) → AreSized n (ids_of_texts (t ∷ ts))
    go None e short later = rw e later
    go (Some u) e short later = grind (arith, filter-short)

-- the number of bytes of texts that end at a `>`, with the `>`
abbrev closed_size : List (List ℕ) → ℕ
closed_size [] = 0
closed_size (t ∷ ts) = length t + 1 + closed_size ts

closed_texts-size : (bs : List ℕ) → closed_size (closed_texts bs) ≤ length bs
closed_texts-size [] = omega arith
closed_texts-size (b ∷ bs) = grind (arith, closed_texts-size bs)

ids_in-size : (ts : List (List ℕ)) → ids_size (ids_of_texts ts) ≤ closed_size ts
ids_in-size [] = omega arith
ids_in-size (t ∷ ts) = grind (arith, after_last_open-short t, ids_in-size ts, filter-short)

pub ids_of-size : (value : List ℕ) → ids_size (ids_of value) ≤ length value
ids_of-size value =
    let found : ids_size (ids_of value) ≤ closed_size (closed_texts value) =
    grind (arith, ids_of-closed, ids_in-size) in
    omega (arith, closed_texts-size value)

All-sized : (n : ℕ) (ids : List (List ℕ)) → AreSized n ids → (k : ℕ) (d : List ℕ) → k < length ids
    → (0 < length (get_or ids k d)) × (length (get_or ids k d) ≤ n)
All-sized n [] h k d lt = absurd (omega arith)
All-sized n (id ∷ ids) h zero d lt = (h.0, h.1)
All-sized n (id ∷ ids) h (suc k) d lt = All-sized n ids h.2 k d (omega arith)

pub ids_of-sized : (value : List ℕ) (k : ℕ) (d : List ℕ) → k < length (ids_of value)
    → (0 < length (get_or (ids_of value) k d)) × (length (get_or (ids_of value) k d) ≤ length value)
ids_of-sized value = grind (arith, All-sized, ids_of-closed, ids_in-sized, closed_texts-short)

-- what is true of each text is true of each vector that has one of these texts
pub each-kept : (P : List ℕ → Type 0) (ids : List (Vec ℕ Global)) (texts : List (List ℕ))
    → map (λ (id : Vec ℕ Global). id.items) ids ≡ texts → All P texts → All (λ (id : Vec ℕ Global). P id.items) ids
each-kept P ids texts e all k d lt =
    let below : k < length texts = omega (arith, ap length e, length-map ids (λ (id : Vec ℕ Global). id.items)) in
    let here : get_or texts k d.items ≡ (get_or ids k d).items = grind (arith, get_or-map) in
    subst P here (all k d.items below)
