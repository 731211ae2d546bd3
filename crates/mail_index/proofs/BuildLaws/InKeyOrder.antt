-- The keys of the entries, put in order one after another, are the table's keys: a new entry or number is a new pair.
use Rattle.std.proofs.Common.{arith}
use Rattle.mail_index.proofs.Words.{◌≡◌, ◌<◌, ◌∙◌, ℕ, zero, suc, List, [], ◌∷◌, ◌++◌, length, map, set, refl, sym, ap, ap₂, subst, inl, inr, ◌⊎◌, Ordering, Less, Equal, Greater, match_ordering, ordering_reverse, nat_cmp, slice_cmp, nat_list_cmp_total, AllByRecursion, IsStrictlySortedBy, AreSorted, Kind, kind_number, Key, key_at, lies_to, with_pair}
unfoldable use Rattle.mail_index.specs.Inside.KeyMaps.{with_key, in_key_order}
use Rattle.mail_index.specs.Inside.KeyMaps.{new_key, with_one, keys_by_numbers, IsAmong, IsOrder, AreDistinct}
use Rattle.mail_index.proofs.ViewLaws.LookUpLemmas.{key_bytes}

abbrev bytes_of : Kind → List ℕ → List ℕ
bytes_of kind text = kind_number kind ∷ text

-- how two keys compare, by their bytes
abbrev comp : List ℕ → List ℕ → Ordering
comp xs ys = slice_cmp nat_cmp xs ys

-- the keys with a pair, if its key compares with the first of them in this way
abbrev pair_step : Kind → List ℕ → ℕ → Key → List Key → Ordering → List Key
pair_step kind text n j js o = match_ordering o (new_key kind text n ∷ j ∷ js) (with_one j n ∷ js)
    (j ∷ with_pair kind text n js)

-- the keys with a key, if it compares with the first of them in this way
abbrev key_step : Key → Key → List Key → Ordering → List Key
key_step k j js o = match_ordering o (k ∷ j ∷ js) (k ∷ j ∷ js) (j ∷ with_key k js)

-- ---- orders

turned : (xs ys : List ℕ) (o : Ordering) → comp xs ys ≡ o → comp ys xs ≡ ordering_reverse o
turned xs ys o e = nat_list_cmp_total.antisymm ys xs ∙ ap ordering_reverse e

-- ---- a pair and another key

commute : (kind : Kind) (text : List ℕ) (n : ℕ) (e : Key) → (comp (bytes_of kind text) (key_bytes e) ≡ Equal → ⊥)
    → (ks : List Key) → with_pair kind text n (with_key e ks) ≡ with_key e (with_pair kind text n ks)
unfolding with_key
commute kind text n e other [] = go (comp (bytes_of kind text) (key_bytes e)) refl
  where
    go : (o : Ordering) → comp (bytes_of kind text) (key_bytes e) ≡ o
        → with_pair kind text n (e ∷ []) ≡ with_key e (new_key kind text n ∷ [])
    go Less h = cc (turned (bytes_of kind text) (key_bytes e) _ h)
    go Equal h = absurd (other h)
    go Greater h = cc (turned (bytes_of kind text) (key_bytes e) _ h)
commute kind text n e other (j ∷ js) =
    go (comp w (key_bytes e)) refl (comp (key_bytes e) (key_bytes j)) refl (comp w (key_bytes j)) refl
    (commute kind text n e other js)
  where
    w : List ℕ
    w = bytes_of kind text

    new : Key
    new = new_key kind text n

    before_all : (o : Ordering) → comp w (key_bytes e) ≡ o → o ≡ Less → (ks : List Key) (h : Ordering)
        → comp (key_bytes e) (key_bytes j) ≡ h → with_key e (new ∷ j ∷ js) ≡ new ∷ key_step e j js h
    before_all o f less _ h g = cc (turned w (key_bytes e) Less (f ∙ less))

    go : (o : Ordering) → comp w (key_bytes e) ≡ o → (p : Ordering) → comp (key_bytes e) (key_bytes j) ≡ p
        → (q : Ordering) → comp w (key_bytes j) ≡ q
        → with_pair kind text n (with_key e js) ≡ with_key e (with_pair kind text n js)
        → with_pair kind text n (with_key e (j ∷ js)) ≡ with_key e (with_pair kind text n (j ∷ js))
    go o f p g q h rest = ap (with_pair kind text n) (ap (key_step e j js) g) ∙ at o f p g q h rest
        ∙ sym (ap (with_key e) (ap (pair_step kind text n j js) h))
      where
        at : (o : Ordering) → comp w (key_bytes e) ≡ o → (p : Ordering) → comp (key_bytes e) (key_bytes j) ≡ p
            → (q : Ordering) → comp w (key_bytes j) ≡ q
            → with_pair kind text n (with_key e js) ≡ with_key e (with_pair kind text n js)
            → with_pair kind text n (key_step e j js p) ≡ with_key e (pair_step kind text n j js q)
        at Equal f p g q h _ = absurd (other f)
        at Less f Less g q h _ = ap (pair_step kind text n e (j ∷ js)) f
            ∙ sym (ap (λ o. with_key e (pair_step kind text n j js o))
            (sym h ∙ nat_list_cmp_total.trans w (key_bytes e) (key_bytes j) f g) ∙ before_all _ f refl js _ g)
        at Less f Equal g q h _ =
            let less = sym h ∙ nat_list_cmp_total.antisymm w (key_bytes j)
            ∙ ap ordering_reverse (sym (nat_list_cmp_total.congr (key_bytes e) (key_bytes j) w g)
            ∙ turned w (key_bytes e) Less f) in
            ap (pair_step kind text n e (j ∷ js)) f
            ∙ sym (ap (λ o. with_key e (pair_step kind text n j js o)) less ∙ before_all _ f refl js _ g)
        at Less f Greater g Less h _ = ap (pair_step kind text n j (with_key e js)) h ∙ sym (before_all _ f refl js _ g)
        at Less f Greater g Equal h _ = cc
        at Less f Greater g Greater h rest = cc
        at Greater f Less g q h _ = ap (pair_step kind text n e (j ∷ js)) f ∙ first q h
          where
            first : (q : Ordering) → comp w (key_bytes j) ≡ q
                → e ∷ with_pair kind text n (j ∷ js) ≡ with_key e (pair_step kind text n j js q)
            first Less h = cc (turned w (key_bytes e) Greater f)
            first Equal h = cc
            first Greater h = cc
        at Greater f Equal g q h _ = ap (pair_step kind text n e (j ∷ js)) f ∙ first q h
          where
            first : (q : Ordering) → comp w (key_bytes j) ≡ q
                → e ∷ with_pair kind text n (j ∷ js) ≡ with_key e (pair_step kind text n j js q)
            first Less h = cc (turned w (key_bytes e) Greater f)
            first Equal h = cc
            first Greater h = cc
        at Greater f Greater g Less h rest = absurd
            (none (nat_list_cmp_total.trans w (key_bytes j) (key_bytes e) h
            (turned (key_bytes e) (key_bytes j) Greater g)))
          where
            none : comp w (key_bytes e) ≡ Less → ⊥
            none less = absurd cc
        at Greater f Greater g Equal h _ = cc
        at Greater f Greater g Greater h rest = cc

-- a pair of the key itself is one more number of it
same_key : (kind : Kind) (text : List ℕ) (n : ℕ) (k : Key) → comp (bytes_of kind text) (key_bytes k) ≡ Equal
    → (ks : List Key) → with_pair kind text n (with_key k ks) ≡ with_key (with_one k n) ks
unfolding with_key
same_key kind text n k same [] = ap (pair_step kind text n k []) same
same_key kind text n k same (j ∷ js) = go (comp (key_bytes k) (key_bytes j)) refl (same_key kind text n k same js)
  where
    go : (p : Ordering) → comp (key_bytes k) (key_bytes j) ≡ p
        → with_pair kind text n (with_key k js) ≡ with_key (with_one k n) js
        → with_pair kind text n (with_key k (j ∷ js)) ≡ with_key (with_one k n) (j ∷ js)
    go p g rest = ap (with_pair kind text n) (ap (key_step k j js) g) ∙ at p g
        ∙ sym (ap (key_step (with_one k n) j js) g)
      where
        at : (p : Ordering) → comp (key_bytes k) (key_bytes j) ≡ p
            → with_pair kind text n (key_step k j js p) ≡ key_step (with_one k n) j js p
        at Less g = cc
        at Equal g = cc
        at Greater g = ap (pair_step kind text n j (with_key k js))
            (nat_list_cmp_total.congr (bytes_of kind text) (key_bytes k) (key_bytes j) same ∙ g) ∙ ap (λ l. j ∷ l) rest

-- ---- the entries

pub in_key_order-new : (kind : Kind) (text : List ℕ) (n : ℕ) (entries : List Key)
    → ((i : ℕ) → i < length entries → lies_to kind text (key_at entries i) ≡ Equal → ⊥)
    → in_key_order (entries ++ new_key kind text n ∷ []) ≡ with_pair kind text n (in_key_order entries)
unfolding with_key in_key_order
in_key_order-new _ _ n [] _ = refl
in_key_order-new kind text n (e ∷ es) absent =
    ap (with_key e) (in_key_order-new kind text n es (λ i h. absent (suc i) (omega arith)))
    ∙ sym (commute _ _ n e (λ same. absent 0 (omega arith) (turned (bytes_of kind text) (key_bytes e) _ same)) _)

pub in_key_order-found : (kind : Kind) (text : List ℕ) (n : ℕ) (entries : List Key) (i : ℕ) → i < length entries
    → lies_to kind text (key_at entries i) ≡ Equal
    → ((j : ℕ) → j < length entries → lies_to kind text (key_at entries j) ≡ Equal → j ≡ i)
    → in_key_order (set entries i (with_one (key_at entries i) n)) ≡ with_pair kind text n (in_key_order entries)
unfolding with_key in_key_order
in_key_order-found _ _ n [] i low same only = absurd (omega arith)
in_key_order-found kind text n (e ∷ es) zero _ same _ =
    sym (same_key _ _ n e (turned (key_bytes e) (bytes_of kind text) _ same) _)
in_key_order-found kind text n (e ∷ es) (suc i) low same only =
    ap (with_key e) (in_key_order-found kind text n es i (omega arith) same
    (λ j h equal. let next = only (suc j) (omega arith) equal in omega arith))
    ∙ sym (commute _ _ n e (λ equal. let none =
    only 0 (omega arith) (turned (bytes_of kind text) (key_bytes e) _ equal) in omega arith) _)

length-with_key : (k : Key) (ks : List Key) → length (with_key k ks) ≡ suc (length ks)
unfolding with_key
length-with_key k [] = refl
length-with_key k (j ∷ js) = grind (arith, length-with_key k js)

pub length-in_key_order : (entries : List Key) → length (in_key_order entries) ≡ length entries
unfolding in_key_order
length-in_key_order [] = refl
length-in_key_order (e ∷ es) = length-with_key e _ ∙ ap suc (length-in_key_order es)

-- ---- the order is that of the sorted entries

all-with_key : (P : List ℕ → Type 0) (k : Key) (ks : List Key) → AllByRecursion P (map key_bytes ks)
    → P (key_bytes k) → AllByRecursion P (map key_bytes (with_key k ks))
unfolding with_key
all-with_key P k [] _ new = (new, tt)
all-with_key P k (j ∷ js) all new = grind (arith, all-with_key P k js all.1 new)

all-in_key_order : (P : List ℕ → Type 0) (entries : List Key) → AllByRecursion P (map key_bytes entries)
    → AllByRecursion P (map key_bytes (in_key_order entries))
unfolding in_key_order
all-in_key_order P [] _ = tt
all-in_key_order P (e ∷ es) all = all-with_key P e _ (all-in_key_order P es all.1) all.0

all-beyond : (xs ys : List ℕ) (zs : List Key) → comp xs ys ≡ Less
    → AllByRecursion (λ z. comp ys z ≡ Less) (map key_bytes zs) → AllByRecursion (λ z. comp xs z ≡ Less)
    (map key_bytes zs)
all-beyond _ _ [] _ _ = tt
all-beyond xs ys (z ∷ zs) less all = (
  nat_list_cmp_total.trans xs ys (key_bytes z) less all.0,
  all-beyond xs ys zs less all.1,
)

sorted-with_key : (k : Key) (ks : List Key) → AreSorted ks
    → AllByRecursion (λ y. comp (key_bytes k) y ≡ Equal → ⊥) (map key_bytes ks) → AreSorted (with_key k ks)
unfolding with_key IsStrictlySortedBy
sorted-with_key k [] _ _ = (tt, tt)
sorted-with_key k (j ∷ js) sorted others = go _ refl (sorted-with_key k js sorted.1 others.1)
  where
    go : (o : Ordering) → comp (key_bytes k) (key_bytes j) ≡ o → AreSorted (with_key k js)
        → AreSorted (key_step k j js o)
    go Less h _ = ((h, all-beyond (key_bytes k) (key_bytes j) _ h sorted.0), sorted)
    go Equal h _ = absurd (others.0 h)
    go Greater h rest = (
      all-with_key _ k _ sorted.0 (turned (key_bytes k) (key_bytes j) _ h),
      rest,
    )

all-by_place : (P : List ℕ → Type 0) (ks : List Key) → ((i : ℕ) → i < length ks → P (key_bytes (key_at ks i)))
    → AllByRecursion P (map key_bytes ks)
all-by_place P [] _ = tt
all-by_place P (k ∷ ks) each = (each 0 (omega arith), all-by_place P ks (λ i h. each (suc i) (omega arith)))

distinct-rest : (k : Key) (ks : List Key) → AreDistinct (k ∷ ks) → AreDistinct ks
distinct-rest k _ distinct i j h h2 same =
    let next = distinct (suc i) (suc j) (omega arith) (omega arith) same in
    omega arith

sorted-in_key_order : (entries : List Key) → AreDistinct entries → AreSorted (in_key_order entries)
unfolding in_key_order IsStrictlySortedBy
sorted-in_key_order [] _ = tt
sorted-in_key_order (e ∷ es) distinct = sorted-with_key e _ (sorted-in_key_order es (distinct-rest e _ distinct))
    (all-in_key_order _ _ (all-by_place _ _
    (λ i h same. let none = distinct (suc i) 0 (omega arith) (omega arith) same in omega arith)))

-- ---- lists of the same keys

-- z is one of the keys
abbrev IsMember : Key → List Key → Type 0
IsMember z [] = ⊥
IsMember z (k ∷ ks) = (k ≡ z) ⊎ IsMember z ks

to-with_key : (z k : Key) (ks : List Key) → IsMember z (k ∷ ks) → IsMember z (with_key k ks)
unfolding with_key
to-with_key z k [] is = is
to-with_key z k (j ∷ js) is = go _ (to-with_key z k js) is
  where
    go : (o : Ordering) → (IsMember z (k ∷ js) → IsMember z (with_key k js)) → IsMember z (k ∷ j ∷ js)
        → IsMember z (key_step k j js o)
    go Less _ is = is
    go Equal _ is = is
    go Greater rest is = elim is [
      | inl e ↦ inr (rest (inl e))
      | inr there ↦ elim there [ inl e ↦ inl e | inr beyond ↦ inr (rest (inr beyond)) ]
    ]

from-with_key : (z k : Key) (ks : List Key) → IsMember z (with_key k ks) → IsMember z (k ∷ ks)
unfolding with_key
from-with_key z k [] is = is
from-with_key z k (j ∷ js) is = go _ (from-with_key z k js) is
  where
    go : (o : Ordering) → (IsMember z (with_key k js) → IsMember z (k ∷ js)) → IsMember z (key_step k j js o)
        → IsMember z (k ∷ j ∷ js)
    go Less _ is = is
    go Equal _ is = is
    go Greater rest is = elim is [
      | inl e ↦ inr (inl e)
      | inr there ↦ elim (rest there) [ inl e ↦ inl e | inr beyond ↦ inr (inr beyond) ]
    ]

to-in_key_order : (z : Key) (entries : List Key) → IsMember z entries → IsMember z (in_key_order entries)
unfolding in_key_order
to-in_key_order z [] is = is
to-in_key_order z (e ∷ es) is = to-with_key z e _
    (elim is [ inl same ↦ inl same | inr there ↦ inr (to-in_key_order z es there) ])

from-in_key_order : (z : Key) (entries : List Key) → IsMember z (in_key_order entries) → IsMember z entries
unfolding in_key_order
from-in_key_order z [] is = is
from-in_key_order z (e ∷ es) is = elim (from-with_key z e _ is)
    [ inl same ↦ inl same | inr there ↦ inr (from-in_key_order z es there) ]

member-at : (entries : List Key) (i : ℕ) → i < length entries → IsMember (key_at entries i) entries
member-at [] i h = absurd (omega arith)
member-at (e ∷ es) zero h = inl refl
member-at (e ∷ es) (suc i) h = inr (member-at es i (omega arith))

-- a number of an entry with this key
record Numbered (z : Key) (entries : List Key) : Type 0 where
  number : ℕ
  within : number < length entries
  is : key_at entries number ≡ z

number-of : (z : Key) (entries : List Key) → IsMember z entries → Numbered z entries
number-of z [] is = absurd is
number-of z (e ∷ es) is = elim is [
  | inl same ↦ grind arith
  | inr there ↦ let found = number-of z es there
      in record { number = suc found.number; within = omega arith; is = found.is }
]

by_number : (entries : List Key) (i : ℕ) (order : List ℕ) → IsAmong i order
    → IsMember (key_at entries i) (keys_by_numbers entries order)
by_number _ i [] is = absurd is
by_number entries i (j ∷ order) is = elim is [
  | inl same ↦ inl (ap (key_at entries) same)
  | inr there ↦ inr (by_number entries i order there)
]

of-numbers : (z : Key) (entries : List Key) (order : List ℕ) → AllByRecursion (λ i. i < length entries) order
    → IsMember z (keys_by_numbers entries order) → IsMember z entries
of-numbers z _ [] _ is = absurd is
of-numbers z entries (j ∷ order) within is = elim is [
  | inl same ↦ rw (← same) (member-at _ j within.0)
  | inr there ↦ of-numbers z entries order within.1 there
]

beyond : (xs : List ℕ) (z : Key) (ks : List Key) → AllByRecursion (λ y. comp xs y ≡ Less) (map key_bytes ks)
    → IsMember z ks → comp xs (key_bytes z) ≡ Less
beyond _ z [] _ is = absurd is
beyond xs z (k ∷ ks) all is = elim is [
  | inl same ↦ rw (← same) all.0
  | inr there ↦ beyond xs z ks all.1 there
]

never_less : (xs : List ℕ) → comp xs xs ≡ Less → ⊥
never_less xs less = grind (arith, nat_list_cmp_total.antisymm)

-- sorted lists of the same keys are the same
same-sorted : (xs ys : List Key) → AreSorted xs → AreSorted ys → ((z : Key) → IsMember z xs → IsMember z ys)
    → ((z : Key) → IsMember z ys → IsMember z xs) → xs ≡ ys
unfolding IsStrictlySortedBy
same-sorted [] [] s t _ _ = refl
same-sorted [] (y ∷ ys) s t _ from = absurd (from y (inl refl))
same-sorted (x ∷ xs) [] s t to _ = absurd (to x (inl refl))
same-sorted (x ∷ xs) (y ∷ ys) s t to from =
    let first : x ≡ y = elim (to x (inl refl)) [
      | inl e ↦ sym e
      | inr there ↦ elim (from y (inl refl)) [
        | inl e ↦ e
        | inr here ↦ absurd (never_less (key_bytes x)
            (nat_list_cmp_total.trans (key_bytes x) (key_bytes y) (key_bytes x) (beyond (key_bytes x) y _ s.0 here)
            (beyond (key_bytes y) x _ t.0 there)))
      ]
    ] in
    ap₂ (λ (k : Key) (l : List Key). k ∷ l) first (same-sorted xs ys s.1 t.1 (λ z is. elim (to z (inr is)) [
      | inl e ↦ absurd (never_less (key_bytes x)
          (subst (λ k. comp (key_bytes x) (key_bytes k) ≡ Less) (sym e ∙ sym first) (beyond (key_bytes x) z _ s.0 is)))
      | inr there ↦ there
    ]) (λ z is. elim (from z (inr is)) [
      | inl e ↦ absurd (never_less (key_bytes y)
          (subst (λ k. comp (key_bytes y) (key_bytes k) ≡ Less) (sym e ∙ first) (beyond (key_bytes y) z _ t.0 is)))
      | inr there ↦ there
    ]))

-- an order that has the number of each entry gives the keys in order
pub in_key_order-by : (entries : List Key) (order : List ℕ) → AreDistinct entries → IsOrder entries order
    → ((i : ℕ) → i < length entries → IsAmong i order) → keys_by_numbers entries order ≡ in_key_order entries
in_key_order-by entries order distinct is whole =
    same-sorted _ _ is.sorted (sorted-in_key_order _ distinct)
    (λ z is_in. to-in_key_order z _ (of-numbers z _ _ is.within is_in))
    (λ z is_in. let found = number-of z _ (from-in_key_order z _ is_in) in grind (arith, by_number))
