-- A look-up among sorted keys finds the key if it is there, because all keys before a lower one are lower.
use Rattle.mail_index.proofs.Words.{◌≡◌, ◌∙◌, ℕ, zero, suc, ◌+◌, ◌-◌, ◌^◌, ◌<◌, ◌≤◌, Bool, true, false, List, [], ◌∷◌, ◌/◌, length, get_or, refl, sym, ap, ap₂, arith, nat_eq, Ordering, Less, Equal, Greater, nat_cmp, is_eq, ordering_reverse, slice_cmp, length-map, get_or-map, nat_tests, pow-suc, nat_list_cmp_total, is_eq-slice_cmp, Less-from_sorted, Kind, kind_number, Key, is_key, lies_to, numbers_at, AreSorted}

-- a key's bytes, by which keys are sorted
abbrev pub key_bytes : Key → List ℕ
key_bytes k = kind_number k.kind ∷ k.text

-- the key is the searched one exactly if it compares as equal
is_key-lies : (kind : Kind) (text : List ℕ) (k : Key) → is_eq (lies_to kind text k) ≡ is_key kind text k
is_key-lies kind text k = is_eq-slice_cmp (key_bytes k) (kind_number kind ∷ text)

pub is_key-as : (kind : Kind) (text : List ℕ) (k : Key) (o : Ordering) → lies_to kind text k ≡ o → is_key kind text k
    ≡ is_eq o
is_key-as kind text k o h = sym (is_key-lies _ _ k) ∙ ap is_eq h

pub is_key-greater : (kind : Kind) (text : List ℕ) (k : Key) → lies_to kind text k ≡ Greater → is_key kind text k
    ≡ false
is_key-greater kind text k h = is_key-as _ _ k _ h

-- if the first key isn't the searched one, the numbers are those of the rest
numbers_at-other : (kind : Kind) (text : List ℕ) (k : Key) (ks : List Key) → is_key kind text k ≡ false
    → numbers_at kind text (k ∷ ks) ≡ numbers_at kind text ks
numbers_at-other _ _ k _ e = rw (e, numbers_at) refl

numbers_at-this : (kind : Kind) (text : List ℕ) (k : Key) (ks : List Key) → is_key kind text k ≡ true
    → numbers_at kind text (k ∷ ks) ≡ k.numbers
numbers_at-this _ _ k _ e = rw (e, numbers_at) refl

-- the first keys aren't the searched one, and the next is
pub numbers_at-found : (kind : Kind) (text : List ℕ) (ks : List Key) (i : ℕ) (d : Key) → i < length ks
    → ((j : ℕ) → j < i → lies_to kind text (get_or ks j d) ≡ Less) → lies_to kind text (get_or ks i d) ≡ Equal
    → numbers_at kind text ks ≡ (get_or ks i d).numbers
numbers_at-found _ _ [] i d h below here = absurd (omega arith)
numbers_at-found kind text (k ∷ ks) zero d h _ here = numbers_at-this _ _ k _ (is_key-as _ _ k _ here)
numbers_at-found kind text (k ∷ ks) (suc i) d h below here =
    numbers_at-other _ _ k _ (is_key-as _ _ k _ (below 0 (omega arith)))
    ∙ numbers_at-found kind text ks i d (omega arith) (λ j lt. below (suc j) (omega arith)) here

-- the first keys are before the searched one, and all others after it
pub numbers_at-none : (kind : Kind) (text : List ℕ) (ks : List Key) (i : ℕ) (d : Key)
    → ((j : ℕ) → j < i → lies_to kind text (get_or ks j d) ≡ Less)
    → ((j : ℕ) → i ≤ j → j < length ks → lies_to kind text (get_or ks j d) ≡ Greater) → numbers_at kind text ks ≡ []
numbers_at-none _ _ [] i d _ _ = refl
numbers_at-none kind text (k ∷ ks) zero d below above =
    numbers_at-other _ _ k _ (is_key-greater _ _ k (above 0 (omega arith) (omega arith)))
    ∙ numbers_at-none kind text ks 0 d (λ j lt. absurd (omega arith))
    (λ j le lt. above (suc j) (omega arith) (omega arith))
numbers_at-none kind text (k ∷ ks) (suc i) d below above =
    numbers_at-other _ _ k _ (is_key-as _ _ k _ (below 0 (omega arith)))
    ∙ numbers_at-none kind text ks i d (λ j lt. below (suc j) (omega arith))
    (λ j le lt. above (suc j) (omega arith) (omega arith))

-- ---- among sorted keys

-- keys before a lower key are lower too
pub before-less : (kind : Kind) (text : List ℕ) (ks : List Key) (d : Key) (m j : ℕ) → AreSorted ks → m < length ks
    → lies_to kind text (get_or ks m d) ≡ Less → j < suc m
    → lies_to kind text (get_or ks j d) ≡ Less
before-less kind text ks d m j sorted within less le = go (nat_eq j m) refl
  where
    go : (t : Bool) → nat_eq j m ≡ t → lies_to kind text (get_or ks j d) ≡ Less
    go true e = ap (λ i. lies_to kind text (get_or ks i d)) (grind (arith, nat_tests)) ∙ less
    go false e =
        let here = ap₂ (slice_cmp nat_cmp) (sym (get_or-map _ _ j d (key_bytes d) (omega arith)))
        (sym (get_or-map _ _ m d (key_bytes d) within))
        ∙ Less-from_sorted _ _ j m (key_bytes d) sorted (grind (arith, nat_tests))
        (omega (arith, within, length-map ks key_bytes)) in
        nat_list_cmp_total.trans (key_bytes (get_or ks j d)) (key_bytes (get_or ks m d)) (kind_number kind ∷ text) here
        less

reversed : (o : Ordering) → o ≡ Greater → ordering_reverse o ≡ Less
reversed o h = grind arith

-- keys after a higher key are higher too
pub after-greater : (kind : Kind) (text : List ℕ) (ks : List Key) (d : Key) (m j : ℕ) → AreSorted ks
    → lies_to kind text (get_or ks m d) ≡ Greater → m ≤ j → j < length ks
    → lies_to kind text (get_or ks j d) ≡ Greater
after-greater kind text ks d m j sorted greater le within = go (nat_eq j m) refl
  where
    go : (t : Bool) → nat_eq j m ≡ t → lies_to kind text (get_or ks j d) ≡ Greater
    go true e = ap (λ i. lies_to kind text (get_or ks i d)) (grind (arith, nat_tests)) ∙ greater
    go false e =
        let wanted : List ℕ = kind_number kind ∷ text in
        let here = ap₂ (slice_cmp nat_cmp) (sym (get_or-map _ _ m d (key_bytes d) (omega arith)))
        (sym (get_or-map _ _ j d (key_bytes d) within))
        ∙ Less-from_sorted _ _ m j (key_bytes d) sorted (grind (arith, nat_tests))
        (omega (arith, within, length-map ks key_bytes)) in
        let first = nat_list_cmp_total.antisymm wanted (key_bytes (get_or ks m d)) ∙ reversed _ greater in
        let all = nat_list_cmp_total.trans wanted (key_bytes (get_or ks m d)) (key_bytes (get_or ks j d)) first here in
        nat_list_cmp_total.antisymm (key_bytes (get_or ks j d)) wanted ∙ ap ordering_reverse all

-- ---- steps

-- the number of keys in each half has one binary digit less
pub record Halves (keys digits : ℕ) : Type 0 where
  pub fewer : ℕ
  pub digits_are : digits ≡ suc fewer
  pub lower : keys / 2 < 2 ^ fewer
  pub upper : keys - keys / 2 - 1 < 2 ^ fewer

pub halves : (keys digits : ℕ) → 0 < keys → keys < 2 ^ digits → Halves keys digits
halves _ zero some h = absurd (omega arith)
halves _ (suc fewer) some h = grind (arith, pow-suc)

pow_some : (n : ℕ) → 0 < 2 ^ n
pow_some zero = omega arith
pow_some (suc n) = let before = pow_some n in omega (arith, pow-suc)

pub half_digits : (keys fewer : ℕ) → 2 ^ suc fewer ≤ suc keys → (0 < keys) × (2 ^ fewer ≤ suc (keys / 2))
    × (2 ^ fewer ≤ suc (keys - (keys / 2 + 1)))
half_digits _ fewer h = grind (arith, pow-suc, pow_some)

-- ---- a key that is found

-- the searched key is found here: the keys before it are lower
pub numbers_at-met : (kind : Kind) (text : List ℕ) (ks : List Key) (m : ℕ) (d : Key) → AreSorted ks → m < length ks
    → lies_to kind text (get_or ks m d) ≡ Equal
    → numbers_at kind text ks ≡ (get_or ks m d).numbers
numbers_at-met kind text ks m d sorted within equal =
    let wanted : List ℕ = kind_number kind ∷ text in
    numbers_at-found _ _ _ m d within (λ j lt.
    let here = ap₂ (slice_cmp nat_cmp) (sym (get_or-map _ _ j d (key_bytes d) (omega arith)))
    (sym (get_or-map _ _ m d (key_bytes d) within))
    ∙ Less-from_sorted _ _ j m (key_bytes d) sorted lt (omega (arith, within, length-map ks key_bytes)) in
    let after = sym (nat_list_cmp_total.congr (key_bytes (get_or ks m d)) wanted (key_bytes (get_or ks j d)) equal)
    ∙ nat_list_cmp_total.antisymm (key_bytes (get_or ks m d)) (key_bytes (get_or ks j d)) ∙ ap ordering_reverse here
    in
    nat_list_cmp_total.antisymm (key_bytes (get_or ks j d)) wanted ∙ ap ordering_reverse after) equal
