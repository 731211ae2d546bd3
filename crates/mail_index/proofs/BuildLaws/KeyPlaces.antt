-- A pair that is put at its place keeps the keys in order, because each key still comes before the next.
use Rattle.std.proofs.Common.{arith}
use Rattle.mail_index.proofs.Words.{◌≡◌, ℕ, List, [], ◌∷◌, Result, OnOk, OnErr, refl, ap, ◌∙◌, Less, Equal, Greater, match_ordering, ordering_reverse, nat_list_cmp_total, Kind, kind_number, key_cmp, Key, KeyBefore, AllNext, with_number, with_pair}

-- if a key comes after another, the other comes before it
turned : (j k : Kind) (xs ys : List ℕ) → key_cmp (kind_number j) xs (kind_number k) ys ≡ Greater
    → key_cmp (kind_number k) ys (kind_number j) xs ≡ Less
turned j k xs ys h = nat_list_cmp_total.antisymm (kind_number k ∷ ys) (kind_number j ∷ xs) ∙ ap ordering_reverse h

-- the first key, if any, comes after this one
abbrev BeforeFirst : Key → List Key → Type 0
BeforeFirst k [] = Unit {0}
BeforeFirst k (j ∷ js) = KeyBefore k j

next-cons : (k : Key) (ks : List Key) → BeforeFirst k ks → AllNext KeyBefore ks → AllNext KeyBefore (k ∷ ks)
next-cons k _ h h2 = grind arith

first-next : (k : Key) (ks : List Key) → AllNext KeyBefore (k ∷ ks) → BeforeFirst k ks
first-next k _ h = grind arith

next-tail : (k : Key) (ks : List Key) → AllNext KeyBefore (k ∷ ks) → AllNext KeyBefore ks
next-tail k _ h = grind arith

-- a key stays before the others if the new key comes after it
before-with_pair : (k : Key) (kind : Kind) (text : List ℕ) (n : ℕ)
    → key_cmp (kind_number k.kind) k.text (kind_number kind) text ≡ Less → (ks : List Key) → BeforeFirst k ks
    → BeforeFirst k (with_pair kind text n ks)
before-with_pair k _ _ n before [] _ = before
before-with_pair k _ _ n before (j ∷ js) first =
    grind (arith, key_cmp, kind_number, match_ordering, with_number, with_pair)

pub with_pair-sorted : (kind : Kind) (text : List ℕ) (n : ℕ) (ks : List Key) → AllNext KeyBefore ks
    → AllNext KeyBefore (with_pair kind text n ks)
with_pair-sorted _ _ n [] _ = tt
with_pair-sorted kind text n (k ∷ ks) sorted =
    (elim (key_cmp (kind_number kind) text (kind_number k.kind) k.text) as
    (λ o. key_cmp (kind_number kind) text (kind_number k.kind) k.text ≡ o
    → AllNext KeyBefore (match_ordering o (record { kind = kind; text = text; numbers = n ∷ [] } ∷ k ∷ ks)
    (record { kind = k.kind; text = k.text; numbers = with_number k.numbers n } ∷ ks) (k ∷ with_pair kind text n ks))) [
      | Less ↦ λ less. (less, sorted)
      | Equal ↦ λ _. next-cons (record { kind = k.kind; text = k.text; numbers = with_number k.numbers n }) _
          (same-first _ (first-next k _ sorted)) (next-tail k _ sorted)
      | Greater ↦ λ greater. next-cons k _ (before-with_pair k _ _ n (turned kind k.kind text k.text greater) _
          (first-next k _ sorted)) (with_pair-sorted kind text n ks (next-tail k _ sorted))
    ]) refl
  where
    same-first : (js : List Key) → BeforeFirst k js
        → BeforeFirst (record { kind = k.kind; text = k.text; numbers = with_number k.numbers n }) js
    same-first _ h = grind arith

-- whatever the result of the call, the keys stay in order
pub sorted-after : {T E : Type 0} (r : Result T E) (kind : Kind) (text : List ℕ) (n : ℕ) (ks after : List Key)
    → OnOk r (after ≡ with_pair kind text n ks) → OnErr r (after ≡ ks) → AllNext KeyBefore ks → AllNext KeyBefore after
sorted-after r _ _ n _ _ h h2 h3 = grind (arith, with_pair-sorted)
