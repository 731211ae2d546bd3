-- Keys with one more pair have this pair and those that they had, and no other: key by key.
use Rattle.mail_index.proofs.Words.{◌≡◌, ℕ, suc, ◌<◌, ◌≤◌, true, false, nat_lt, if◌then◌else◌, List, [], ◌∷◌, ◌++◌, refl, ◌∙◌, inl, inr, arith, ◌⊎◌, Ordering, Less, Equal, Greater, match_ordering, ordering_then, nat_cmp, slice_cmp, AllByRecursion, nat_tests, ranked, Kind, kind_number, kind_of_number, Key, RisesFrom, IsKey, end_from, with_number, with_pair, IsIn, HasPosting}
use Rattle.mail_index.proofs.BuildLaws.DraftLemmas.{by-number, end_from-below}
use Rattle.mail_index.proofs.ViewLaws.KindNumbers.{kind_of-number}

texts-same : (xs ys : List ℕ) → slice_cmp nat_cmp xs ys ≡ Equal → xs ≡ ys
texts-same [] [] h = refl
texts-same (x ∷ xs) [] h = absurd cc
texts-same [] (y ∷ ys) h = absurd cc
texts-same (x ∷ xs) (y ∷ ys) h = go _ refl h (λ e. texts-same xs ys e)
  where
    go : (o : Ordering) → nat_cmp x y ≡ o → ordering_then o (slice_cmp nat_cmp xs ys) ≡ Equal
        → (slice_cmp nat_cmp xs ys ≡ Equal → xs ≡ ys) → x ∷ xs ≡ y ∷ ys
    go o h h2 h3 = grind (arith, ranked)

pub keys-same : (j k : Kind) (xs ys : List ℕ) → slice_cmp nat_cmp (kind_number j ∷ xs) (kind_number k ∷ ys) ≡ Equal
    → (j ≡ k) × (xs ≡ ys)
keys-same j k _ _ h = grind (arith, kind_number, texts-same, kind_of-number, kind_of_number)

is_in-snoc : (ns : List ℕ) (n m : ℕ) → IsIn (ns ++ n ∷ []) m → IsIn ns m ⊎ (n ≡ m)
is_in-snoc [] n m h = grind arith
is_in-snoc (x ∷ ns) n m h = elim h [
  | inl e ↦ inl (inl e)
  | inr rest ↦ grind (arith, is_in-snoc ns n m rest)
]

is_in-front : (ns : List ℕ) (n m : ℕ) → IsIn ns m → IsIn (ns ++ n ∷ []) m
is_in-front [] n m h = absurd h
is_in-front (x ∷ ns) n m h = elim h [ inl e ↦ inl e | inr rest ↦ inr (is_in-front ns n m rest) ]

is_in-end : (ns : List ℕ) (n : ℕ) → IsIn (ns ++ n ∷ []) n
is_in-end [] n = inl refl
is_in-end (x ∷ ns) n = inr (is_in-end ns n)

end_from-rises : (low : ℕ) (ns : List ℕ) → RisesFrom low ns → low ≤ end_from low ns
end_from-rises _ [] r = omega arith
end_from-rises _ (x ∷ ns) r = omega (arith, end_from-rises (suc x) ns r.1)

-- the number just before the end is in the list
is_in-last : (low : ℕ) (ns : List ℕ) (n : ℕ) → RisesFrom low ns → end_from low ns ≡ suc n → low ≤ n → IsIn ns n
is_in-last _ [] n r e h = absurd (omega arith)
is_in-last _ (x ∷ []) n r e h = inl (omega arith)
is_in-last _ (x ∷ y ∷ ns) n r e h =
    inr (is_in-last (suc x) (y ∷ ns) n r.1 e (omega (arith, r.1.0, end_from-rises _ _ r.1.1)))

pub with_number-tells : (ns : List ℕ) (n m : ℕ) → IsIn (with_number ns n) m → IsIn ns m ⊎ (n ≡ m)
with_number-tells ns n m = by-number (λ xs. IsIn xs m → IsIn ns m ⊎ (n ≡ m)) ns n (λ h. inl h)
    (λ _ h. is_in-snoc _ n m h)

with_number-keeps : (ns : List ℕ) (n m : ℕ) → IsIn ns m → IsIn (with_number ns n) m
with_number-keeps ns n m h = by-number (λ xs. IsIn xs m) ns n h (λ _. is_in-front _ n m h)

with_number-has : (ns : List ℕ) (n : ℕ) → RisesFrom 0 ns → AllByRecursion (λ m. m < suc n) ns
    → IsIn (with_number ns n) n
unfolding with_number
with_number-has ns n r below = (elim (nat_lt n (end_from 0 ns)) as
    (λ v. nat_lt n (end_from 0 ns) ≡ v → IsIn (if v then ns else ns ++ n ∷ []) n) [
      | true ↦ λ e.
          let low : n < end_from 0 ns = grind (arith, nat_tests) in
          is_in-last 0 _ n r (omega (arith, end_from-below _ 0 _ (omega arith) below)) (omega arith)
      | false ↦ λ _. is_in-end _ n
    ]) refl

pub with_pair-tells : (n : ℕ) (kind : Kind) (text : List ℕ) (ks : List Key) (k : Kind) (t : List ℕ) (m : ℕ)
    → HasPosting (with_pair kind text n ks) k t m → HasPosting ks k t m ⊎ ((kind ≡ k) × (text ≡ t) × (n ≡ m))
with_pair-tells n _ _ [] k t m h = grind arith
with_pair-tells n kind text (key ∷ ks) k t m told =
    (elim (slice_cmp nat_cmp (kind_number kind ∷ text) (kind_number key.kind ∷ key.text)) as
    (λ o. slice_cmp nat_cmp (kind_number kind ∷ text) (kind_number key.kind ∷ key.text) ≡ o
    → HasPosting (match_ordering o (record { kind = kind; text = text; numbers = n ∷ [] } ∷ key ∷ ks)
    (record { kind = key.kind; text = key.text; numbers = with_number key.numbers n } ∷ ks)
    (key ∷ with_pair kind text n ks)) k t m → HasPosting (key ∷ ks) k t m ⊎ ((kind ≡ k) × (text ≡ t) × (n ≡ m))) [
      | Less ↦ λ _ h. elim h [
        | inl here ↦ grind arith
        | inr rest ↦ inl rest
      ]
      | Equal ↦ λ equal h.
          let same = keys-same _ _ _ _ equal in
          elim h [
            | inl here ↦ elim (with_number-tells _ n m here.2)
                [ inl there ↦ inl (inl (here.0, here.1, there)) | inr e ↦ inr (same.0 ∙ here.0, same.1 ∙ here.1, e) ]
            | inr rest ↦ inl (inr rest)
          ]
      | Greater ↦ λ _ h. elim h [
        | inl here ↦ inl (inl here)
        | inr rest ↦ grind (arith, with_pair-tells n kind text ks k t m rest)
      ]
    ]) refl told

pub with_pair-keeps : (n : ℕ) (kind : Kind) (text : List ℕ) (ks : List Key) (k : Kind) (t : List ℕ) (m : ℕ)
    → HasPosting ks k t m → HasPosting (with_pair kind text n ks) k t m
with_pair-keeps n _ _ [] k t m h = absurd h
with_pair-keeps n kind text (key ∷ ks) k t m h =
    elim (slice_cmp nat_cmp (kind_number kind ∷ text) (kind_number key.kind ∷ key.text)) as
    (λ o. HasPosting (match_ordering o (record { kind = kind; text = text; numbers = n ∷ [] } ∷ key ∷ ks)
    (record { kind = key.kind; text = key.text; numbers = with_number key.numbers n } ∷ ks)
    (key ∷ with_pair kind text n ks)) k t m) [
      | Less ↦ inr h
      | Equal ↦ grind (arith, with_number-keeps)
      | Greater ↦ elim h [ inl here ↦ inl here | inr rest ↦ inr (with_pair-keeps n kind text ks k t m rest) ]
    ]

pub with_pair-has : (version n : ℕ) (kind : Kind) (text : List ℕ) (ks : List Key)
    → AllByRecursion (IsKey version (suc n)) ks → HasPosting (with_pair kind text n ks) kind text n
with_pair-has _ n _ _ [] _ = inl (refl, refl, inl refl)
with_pair-has version n kind text (key ∷ ks) all =
    grind (
      arith,
      slice_cmp,
      nat_cmp,
      kind_number,
      match_ordering,
      with_number,
      with_pair,
      keys-same,
      with_number-has,
      with_pair-has version n kind text ks all.1,
    )
