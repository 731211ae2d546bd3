-- One more number and one more entry keep the map's keys in order, because a search finds the only gap for a new key.
use Rattle.mail_index.proofs.Words.{◌≡◌, ◌∙◌, ℕ, zero, suc, ◌-◌, ◌<◌, ◌≤◌, inl, inr, Bool, true, false, nat_eq, nat_lt, List, [], ◌∷◌, ◌++◌, length, map, set, get_or, refl, sym, ap, ap₂, arith, length-append, Vec, Global, Ordering, Less, Equal, Greater, ordering_reverse, nat_cmp, slice_cmp, AllByRecursion, insert, IsStrictlySortedBy, nat_tests, nat_list_cmp_total, length-map, length-set, get_or-map, get_or_append_left, get_or-set_same, get_or-set_other, get_or-append_seam, Kind, kind_number, Key, key_at, no_key, lies_to, AreSorted}
use Rattle.mail_index.specs.declared.build.key_front.Fronted.{Fronted}
use Rattle.mail_index.specs.Inside.KeyMaps.{with_one, keys_by_numbers, numbers_of_slots, slot_keys, rows, in_pages, position, IsAmong, IsOrder, IsGap}
use Rattle.mail_index.proofs.ViewLaws.LookUpLemmas.{key_bytes, before-less, after-greater}
use Rattle.mail_index.proofs.BuildLaws.PageLemmas.{position-step, position-next, position-last, position-within, at-page, at-head}
use Rattle.mail_index.proofs.Items.{all-weaker}

abbrev bytes_of : Kind → List ℕ → List ℕ
bytes_of kind text = kind_number kind ∷ text

-- the searched key compares with the other in the reverse way
wanted-to : (kind : Kind) (text : List ℕ) (k : Key) (o : Ordering) → lies_to kind text k ≡ o
    → slice_cmp nat_cmp (bytes_of kind text) (key_bytes k) ≡ ordering_reverse o
wanted-to kind text k o e = nat_list_cmp_total.antisymm (bytes_of kind text) (key_bytes k) ∙ ap ordering_reverse e

pub placed-at : (entries : List Key) (order : List ℕ) (j : ℕ) → j < length order
    → key_at (keys_by_numbers entries order) j
    ≡ key_at entries (get_or order j 0)
placed-at entries order j h = get_or-map _ _ j 0 no_key h

-- ---- gaps

-- any slot, for a place where there is none
abbrev no_slot : Fronted
no_slot = record { number = 0; front = 0 }

pub slots-long : (entries : List Key) (slots : List Fronted) → length (slot_keys entries slots) ≡ length slots
slots-long entries slots = length-map _ _ ∙ length-map _ _

pub slot-at : (entries : List Key) (slots : List Fronted) (j : ℕ) (d : Fronted) → j < length slots
    → key_at (slot_keys entries slots) j ≡ key_at entries (get_or slots j d).number
slot-at _ _ j d h = grind (arith, placed-at, length-map, key_at, get_or-map)

-- the gap that is found between the heads and then in the page is the gap of the whole order
pub gap-in_pages : (kind : Kind) (text : List ℕ) (entries : List Key) (pages : List (List Fronted))
    (heads : List Fronted) (page at : ℕ) → length heads ≡ length pages - 1 → page < length pages
    → IsGap kind text (slot_keys entries heads) page → IsGap kind text (slot_keys entries (get_or pages page [])) at
    → IsGap kind text (slot_keys entries (in_pages pages heads)) (position pages page at)
gap-in_pages kind text entries pages heads page at b h outer inner = record {
  within = omega (arith, slots-long entries flat, position-within _ _ _ _ b h inside);
  below = λ j e. below at page j refl refl e;
  above = λ lt. above lt (nat_lt at (length row)) refl (nat_lt page (length heads)) refl;
}
  where
    row : List Fronted
    row = get_or pages page []

    flat : List Fronted
    flat = in_pages pages heads

    inside : at ≤ length (get_or pages page [])
    inside = omega (arith, slots-long)

    same-key : (j i : ℕ) (others : List Fronted) → j < length (in_pages pages heads) → i < length others
        → get_or (in_pages pages heads) j no_slot ≡ get_or others i no_slot
        → key_at (slot_keys entries (in_pages pages heads)) j ≡ key_at (slot_keys entries others) i
    same-key j i others lt within e = slot-at _ _ j _ lt ∙ ap (λ (slot : Fronted). key_at entries slot.number) e
        ∙ sym (slot-at _ _ i _ within)

    below : (a p j : ℕ) → at ≡ a → page ≡ p → suc j ≡ position pages page at
        → lies_to kind text (key_at (slot_keys entries (in_pages pages heads)) j) ≡ Less
    below (suc a) p j ea ep e =
        let step = position-step pages page a in
        let low : a < length (get_or pages page []) = omega (arith, inside) in
        let there = ap (λ (i : ℕ). get_or (in_pages pages heads) i no_slot)
        (omega (arith, e ∙ ap (position pages page) ea)) ∙ at-page _ _ _ a no_slot b h low in
        ap (lies_to kind text) (same-key j a _ (omega (arith, e, position-within _ _ _ _ b h inside)) low there)
        ∙ inner.below a (sym ea)
    below zero (suc p) j ea ep e =
        let more : suc p < length pages = omega arith in
        let step = position-next _ p more in
        let low : p < length heads = omega arith in
        let there = ap (λ (i : ℕ). get_or (in_pages pages heads) i no_slot)
        (omega (arith, e ∙ ap₂ (position pages) ep ea)) ∙ at-head _ _ p no_slot b low in
        ap (lies_to kind text) (same-key j p _ (omega (arith, e, position-within _ _ _ _ b h inside)) low there)
        ∙ outer.below p (sym ep)
    below zero zero j ea ep e = absurd (omega (arith, e ∙ ap₂ (position pages) ep ea, first _ h))
      where
        first : (ps : List (List Fronted)) → page < length ps → position ps 0 0 ≡ 0
        first [] l = absurd (omega arith)
        first (r ∷ rs) l = refl

    above : position pages page at < length (slot_keys entries (in_pages pages heads)) → (t : Bool)
        → nat_lt at (length (get_or pages page [])) ≡ t → (u : Bool) → nat_lt page (length heads) ≡ u
        → lies_to kind text (key_at (slot_keys entries (in_pages pages heads)) (position pages page at)) ≡ Greater
    above lt true et u eu =
        let low : at < length (get_or pages page []) = grind (arith, nat_tests) in
        ap (lies_to kind text) (same-key _ _ _ (omega (arith, slots-long)) low (at-page _ _ _ _ _ b h low))
        ∙ inner.above (omega (arith, slots-long))
    above lt false et true eu =
        let high : length (get_or pages page []) ≤ at = grind (arith, nat_tests) in
        let low : page < length heads = grind (arith, nat_tests) in
        let there = ap (λ (i : ℕ). get_or (in_pages pages heads) (position pages page i) no_slot)
        (omega (arith, inside)) ∙ at-head _ _ _ no_slot b low in
        ap (lies_to kind text) (same-key _ _ _ (omega (arith, slots-long)) low there)
        ∙ outer.above (omega (arith, slots-long))
    above lt false et false eu =
        let high : length (get_or pages page []) ≤ at = grind (arith, nat_tests) in
        let end : at ≡ length (get_or pages page []) = omega (arith, inside) in
        let all = ap (position pages page) end ∙ position-last _ _ _ b h (grind (arith, nat_tests)) in
        absurd (omega (arith, slots-long))

pub gap-found : (kind : Kind) (text : List ℕ) (entries : List Key) (pages : List (Vec Fronted Global))
    (heads : List Fronted) (page at : ℕ) (row : List Fronted) → length heads ≡ length pages - 1 → page < length pages
    → row ≡ get_or (rows pages) page [] → IsGap kind text (slot_keys entries heads) page
    → IsGap kind text (slot_keys entries row) at
    → IsGap kind text (slot_keys entries (in_pages (rows pages) heads)) (position (rows pages) page at)
gap-found kind text entries pages heads page at _ b h r outer inner =
    let long = length-map pages (λ (p : Vec Fronted Global). p.items) in
    gap-in_pages _ _ _ _ _ _ _ (omega arith) (omega arith) outer (rw (← r) inner)

-- in sorted keys, all keys before a gap are before the searched key, and all others are after it
gap-below : (kind : Kind) (text : List ℕ) (ks : List Key) (place j : ℕ) → AreSorted ks → IsGap kind text ks place
    → j < place → lies_to kind text (key_at ks j) ≡ Less
gap-below _ _ _ zero j s g h = absurd (omega arith)
gap-below kind text ks (suc m) j s g h = before-less _ _ _ _ m j s (omega arith) (g.below m refl) h

gap-above : (kind : Kind) (text : List ℕ) (ks : List Key) (place j : ℕ) → AreSorted ks → IsGap kind text ks place
    → place ≤ j → j < length ks → lies_to kind text (key_at ks j) ≡ Greater
gap-above kind text ks place j s g le lt = grind (arith, after-greater, no_key)

-- ---- one more key

all-after : (kind : Kind) (text : List ℕ) (ks : List Key)
    → ((j : ℕ) → j < length ks → lies_to kind text (key_at ks j) ≡ Greater)
    → AllByRecursion (λ y. slice_cmp nat_cmp (bytes_of kind text) y ≡ Less) (map key_bytes ks)
all-after _ _ [] _ = tt
all-after kind text (k ∷ ks) above = (
  wanted-to _ _ k _ (above 0 (omega arith)),
  all-after kind text ks (λ j lt. above (suc j) (omega arith)),
)

all-insert : (P : List ℕ → Type 0) (ks : List Key) (place : ℕ) (k : Key) → AllByRecursion P (map key_bytes ks)
    → P (key_bytes k) → AllByRecursion P (map key_bytes (insert ks place k))
all-insert P [] zero k _ new = (new, tt)
all-insert P [] (suc place) k _ new = (new, tt)
all-insert P (x ∷ ks) zero k all new = (new, all)
all-insert P (x ∷ ks) (suc place) k all new = (all.0, all-insert P ks place k all.1 new)

sorted-new : (k : Key) (ks : List Key) (place : ℕ) → AreSorted ks → place ≤ length ks
    → ((j : ℕ) → j < place → lies_to k.kind k.text (key_at ks j) ≡ Less)
    → ((j : ℕ) → place ≤ j → j < length ks → lies_to k.kind k.text (key_at ks j) ≡ Greater)
    → AreSorted (insert ks place k)
unfolding IsStrictlySortedBy
sorted-new k [] zero s w _ _ = (tt, tt)
sorted-new k [] (suc place) s w _ _ = (tt, tt)
sorted-new k (j ∷ js) zero s w below above = (all-after k.kind k.text (j ∷ js) (λ i lt. above i (omega arith) lt), s)
sorted-new k (j ∷ js) (suc place) s w below above = (
  all-insert _ _ _ k s.0 (below 0 (omega arith)),
  sorted-new k js place s.1 (omega arith) (λ i lt. below (suc i) (omega arith))
      (λ i le lt. above (suc i) (omega arith) (omega arith)),
)

-- one more entry leaves the keys of the others unchanged
placed-more : (entries : List Key) (k : Key) (order : List ℕ) → AllByRecursion (λ i. i < length entries) order
    → keys_by_numbers (entries ++ k ∷ []) order ≡ keys_by_numbers entries order
placed-more _ k [] _ = refl
placed-more entries k (i ∷ order) all = ap₂ (λ (x : Key) (l : List Key). x ∷ l)
    (get_or_append_left entries (k ∷ []) no_key i all.0) (placed-more entries k order all.1)

pub map-insert : {A B : Type 0} (f : A → B) (order : List A) (place : ℕ) (m : A) → map f (insert order place m)
    ≡ insert (map f order) place (f m)
map-insert f [] zero m = refl
map-insert f [] (suc place) m = refl
map-insert f (i ∷ order) zero m = refl
map-insert {B = B} f (i ∷ order) (suc place) m = ap (λ (l : List B). f i ∷ l) (map-insert f order place m)

pub placed-new : (entries : List Key) (k : Key) (order : List ℕ) (place : ℕ)
    → AllByRecursion (λ i. i < length entries) order
    → keys_by_numbers (entries ++ k ∷ []) (insert order place (length entries))
    ≡ insert (keys_by_numbers entries order) place k
placed-new _ k _ _ all = grind (arith, map-insert, key_at, insert, placed-more, get_or-append_seam, no_key)

pub all-inserted : {A : Type 0} (P : A → Type 0) (order : List A) (place : ℕ) (m : A) → AllByRecursion P order → P m
    → AllByRecursion P (insert order place m)
all-inserted P [] zero m _ new = (new, tt)
all-inserted P [] (suc place) m _ new = (new, tt)
all-inserted P (i ∷ order) zero m all new = (new, all)
all-inserted P (i ∷ order) (suc place) m all new = (all.0, all-inserted P order place m all.1 new)

pub among-new : (order : List ℕ) (place m : ℕ) → IsAmong m (insert order place m)
among-new [] zero m = inl refl
among-new [] (suc place) m = inl refl
among-new (i ∷ order) zero m = inl refl
among-new (i ∷ order) (suc place) m = inr (among-new order place m)

pub among-kept : (order : List ℕ) (place m i : ℕ) → IsAmong i order → IsAmong i (insert order place m)
among-kept [] _ m i a = absurd a
among-kept (x ∷ order) zero m i a = inr a
among-kept (x ∷ order) (suc place) m i a = elim a [ inl e ↦ inl e | inr b ↦ inr (among-kept order place m i b) ]

-- an order keeps the keys of its entries sorted if one more is put at its gap
sorted-gap : (k : Key) (ks : List Key) (place : ℕ) → AreSorted ks → IsGap k.kind k.text ks place
    → AreSorted (insert ks place k)
sorted-gap k ks place s g = sorted-new k _ _ s g.within (λ j lt. gap-below _ _ _ _ j s g lt)
    (λ j le lt. gap-above _ _ _ _ j s g le lt)

-- one more entry, without its number
pub order-more : (k : Key) (entries : List Key) (order : List ℕ) → IsOrder entries order
    → IsOrder (entries ++ k ∷ []) order
order-more k entries order o = grind (arith, placed-more, all-weaker, length, length-append)

-- one more entry, with its number
pub order-new : (k : Key) (entries : List Key) (order : List ℕ) (place : ℕ) → IsOrder entries order
    → IsGap k.kind k.text (keys_by_numbers entries order) place
    → IsOrder (entries ++ k ∷ []) (insert order place (length entries))
order-new k entries order place o g = record {
  sorted = rw (placed-new _ k _ _ o.within) (sorted-gap k _ _ o.sorted g);
  within = all-inserted _ _ _ _ (order-more k _ _ o).within (omega (arith, length-append entries (k ∷ [])));
}

-- one more number of an entry
pub order-placed : (entries : List Key) (number : ℕ) (order : List ℕ) (place : ℕ) → number < length entries
    → IsOrder entries order
    → IsGap (key_at entries number).kind (key_at entries number).text (keys_by_numbers entries order) place
    → IsOrder entries (insert order place number)
order-placed entries number order place low o g =
    grind (arith, map-insert, key_at, sorted-gap, keys_by_numbers, all-inserted, length)

pub among-within : (count : ℕ) (order : List ℕ) (i : ℕ) → AllByRecursion (λ n. n < count) order → IsAmong i order
    → i < count
among-within _ [] i _ a = absurd a
among-within count (x ∷ order) i all a = elim a [
  | inl e ↦ rw (← e) all.0
  | inr b ↦ among-within count order i all.1 b
]

among-index : (order : List ℕ) (i : ℕ) → IsAmong i order → (k : ℕ) × (k < length order) × (get_or order k 0 ≡ i)
among-index [] i a = absurd a
among-index (x ∷ order) i a = elim a [
  | inl e ↦ (0, omega arith, e)
  | inr b ↦ let found = among-index order i b in (suc found.0, omega arith, found.2)
]

-- an order with a gap for a key has no entry of it
pub gap-absent : (kind : Kind) (text : List ℕ) (entries : List Key) (order : List ℕ) (place i : ℕ)
    → IsOrder entries order → IsGap kind text (keys_by_numbers entries order) place → IsAmong i order
    → lies_to kind text (key_at entries i) ≡ Equal → ⊥
gap-absent kind text entries order place i o g a equal =
    let found = among-index _ i a in
    let long = length-map order (key_at entries) in
    let same = ap (lies_to kind text) (placed-at _ _ _ found.1 ∙ ap (key_at entries) found.2) ∙ equal in
    go _ (omega arith) same (nat_lt found.0 place) refl
  where
    go : (j : ℕ) → j < length (keys_by_numbers entries order)
        → lies_to kind text (key_at (keys_by_numbers entries order) j) ≡ Equal → (t : Bool) → nat_lt j place ≡ t → ⊥
    go j low same true e =
        let less = gap-below _ _ _ _ j o.sorted g (grind (arith, nat_tests)) in
        absurd cc
    go j low same false e = grind (arith, lies_to, key_at, keys_by_numbers, gap-above)

-- ---- numbers of slots

pub among-slot : (slots : List Fronted) (j : ℕ) (d : Fronted) → j < length slots
    → IsAmong (get_or slots j d).number (numbers_of_slots slots)
among-slot [] j d h = absurd (omega arith)
among-slot (slot ∷ slots) zero d h = inl refl
among-slot (slot ∷ slots) (suc j) d h = inr (among-slot slots j d (omega arith))

among-right : (n : ℕ) (xs ys : List Fronted) → IsAmong n (numbers_of_slots ys) → IsAmong n (numbers_of_slots (xs ++ ys))
among-right n [] _ a = a
among-right n (x ∷ xs) ys a = inr (among-right n xs ys a)

among-left : (n : ℕ) (xs ys : List Fronted) → IsAmong n (numbers_of_slots xs) → IsAmong n (numbers_of_slots (xs ++ ys))
among-left n [] _ a = absurd a
among-left n (x ∷ xs) ys a = elim a [ inl e ↦ inl e | inr b ↦ inr (among-left n xs ys b) ]

among-heads : (n : ℕ) (pages : List (List Fronted)) (heads : List Fronted) → length heads ≡ length pages - 1
    → IsAmong n (numbers_of_slots heads) → IsAmong n (numbers_of_slots (in_pages pages heads))
among-heads n _ [] b a = absurd a
among-heads n [] (head ∷ heads) b a = absurd (omega arith)
among-heads n (row ∷ []) (head ∷ heads) b a = absurd (omega arith)
among-heads n (row ∷ next ∷ rest) (head ∷ heads) b a =
    among-right n row (head ∷ in_pages (next ∷ rest) heads)
    (elim a [ inl e ↦ inl e | inr c ↦ inr (among-heads n (next ∷ rest) heads (omega arith) c) ])

among-row : (n : ℕ) (pages : List (List Fronted)) (heads : List Fronted) (page : ℕ) → length heads ≡ length pages - 1
    → page < length pages → IsAmong n (numbers_of_slots (get_or pages page []))
    → IsAmong n (numbers_of_slots (in_pages pages heads))
among-row n [] _ _ b h a = absurd (omega arith)
among-row n (row ∷ rest) [] zero b h a = among-left n _ _ a
among-row n (row ∷ rest) (head ∷ heads) zero b h a = among-left n _ _ a
among-row n (row ∷ rest) [] (suc page) b h a = absurd (omega arith)
among-row n (row ∷ rest) (head ∷ heads) (suc page) b h a =
    among-right n row (head ∷ in_pages rest heads) (inr (among-row n rest heads page (omega arith) (omega arith) a))

pub among-head : (n : ℕ) (pages : List (Vec Fronted Global)) (heads : List Fronted) → length heads
    ≡ length pages - 1 → IsAmong n (numbers_of_slots heads)
    → IsAmong n (numbers_of_slots (in_pages (rows pages) heads))
among-head n pages heads b a = among-heads n _ _
    (omega (arith, b, length-map pages (λ (p : Vec Fronted Global). p.items))) a

pub among-page : (n : ℕ) (pages : List (Vec Fronted Global)) (heads : List Fronted) (page : ℕ) (row : List Fronted)
    → length heads ≡ length pages - 1 → page < length pages → row ≡ get_or (rows pages) page []
    → IsAmong n (numbers_of_slots row) → IsAmong n (numbers_of_slots (in_pages (rows pages) heads))
among-page n pages heads page _ b h r a =
    let long = length-map pages (λ (p : Vec Fronted Global). p.items) in
    among-row n _ _ page (omega arith) (omega arith) (rw (← r) a)

-- ---- one more number

-- another entry leaves the keys with other numbers unchanged
key-other : (entries : List Key) (i j : ℕ) (k : Key) → nat_eq j i ≡ false → key_at (set entries i k) j
    ≡ key_at entries j
key-other entries i j k e = get_or-set_other entries i j k no_key (grind (arith, nat_tests))

-- one more number leaves the keys' bytes unchanged
bytes-same : (entries : List Key) (i n : ℕ) (order : List ℕ) → i < length entries
    → map key_bytes (keys_by_numbers (set entries i (with_one (key_at entries i) n)) order)
    ≡ map key_bytes (keys_by_numbers entries order)
bytes-same _ i n [] _ = refl
bytes-same entries i n (j ∷ order) lt = grind
    (arith, key_bytes, key_at, set, get_or-set_same, no_key, key-other, with_one, bytes-same entries i n order lt)

pub order-found : (entries : List Key) (i n : ℕ) (order : List ℕ) → i < length entries → IsOrder entries order
    → IsOrder (set entries i (with_one (key_at entries i) n)) order
order-found _ i n _ lt o = grind (arith, set, key_at, length-set, slice_cmp, nat_cmp, bytes-same, all-weaker)

pub all-at : {A : Type 0} (P : A → Type 0) (order : List A) (j : ℕ) (d : A) → AllByRecursion P order → j < length order
    → P (get_or order j d)
all-at P [] j d all h = absurd (omega arith)
all-at P (i ∷ order) zero d all h = all.0
all-at P (i ∷ order) (suc j) d all h = all-at P order j d all.1 (omega arith)

-- one more slot is one more number
pub numbers-insert : (slots : List Fronted) (place : ℕ) (slot : Fronted) → numbers_of_slots (insert slots place slot)
    ≡ insert (numbers_of_slots slots) place slot.number
numbers-insert slots place slot = map-insert _ _ _ _

pub order-empty : IsOrder [] []
unfolding IsStrictlySortedBy
order-empty = record { sorted = tt; within = tt }
