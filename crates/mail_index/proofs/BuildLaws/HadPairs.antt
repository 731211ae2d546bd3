-- A pair that is there already changes nothing, also after another pair was added: by the order of the two keys.
use Rattle.std.proofs.Common.{arith}
use Rattle.mail_index.proofs.Words.{◌≡◌, ℕ, List, [], ◌∷◌, length, drop, refl, sym, ap, ◌∙◌, Ordering, Less, Equal, Greater, match_ordering, ordering_reverse, nat_cmp, slice_cmp, nat_list_cmp_total, Kind, kind_number, key_cmp, Key, with_pair}
use Rattle.mail_index.specs.Inside.KeyMaps.{new_key, with_one}

-- the keys with a pair, if its key compares with the first of them in this way
abbrev step : Kind → List ℕ → ℕ → Key → List Key → Ordering → List Key
step kind text n key ks o = match_ordering o (new_key kind text n ∷ key ∷ ks) (with_one key n ∷ ks)
    (key ∷ with_pair kind text n ks)

abbrev bytes_of : Kind → List ℕ → List ℕ
bytes_of kind text = kind_number kind ∷ text

abbrev key_bytes : Key → List ℕ
key_bytes key = bytes_of key.kind key.text

abbrev lies : Kind → List ℕ → Key → Ordering
lies kind text key = key_cmp (kind_number kind) text (kind_number key.kind) key.text

-- a key that isn't before a third one comes after each key that is
after : (xs ys zs : List ℕ) → slice_cmp nat_cmp ys zs ≡ Less → slice_cmp nat_cmp xs zs ≡ Equal
    → slice_cmp nat_cmp xs ys ≡ Greater
after xs ys zs less equal = nat_list_cmp_total.congr xs zs ys equal ∙ nat_list_cmp_total.antisymm zs ys
    ∙ ap ordering_reverse less

further_after : (xs ys zs : List ℕ) → slice_cmp nat_cmp ys zs ≡ Less → slice_cmp nat_cmp xs zs ≡ Greater
    → slice_cmp nat_cmp xs ys ≡ Greater
further_after xs ys zs less greater =
    grind (arith, nat_list_cmp_total.antisymm, ordering_reverse, nat_list_cmp_total.trans)

pub with_pair-had : (n : ℕ) (kind : Kind) (text : List ℕ) (ks : List Key) (k : Kind) (t : List ℕ) → with_pair k t n ks
    ≡ ks → with_pair k t n (with_pair kind text n ks) ≡ with_pair kind text n ks
with_pair-had n _ _ [] k t had = absurd cc
with_pair-had n kind text (key ∷ ks) k t had =
    go (lies k t key) refl (lies kind text key) refl (with_pair-had n kind text ks k t)
  where
    new : Key
    new = new_key kind text n

    had-as : (o : Ordering) → lies k t key ≡ o → step k t n key ks o ≡ key ∷ ks
    had-as o e = sym (ap (step k t n key ks) e) ∙ had

    -- the other pair's key comes before all
    first : lies k t new ≡ Greater → with_pair k t n (new ∷ key ∷ ks) ≡ new ∷ key ∷ ks
    first e = cc

    at : (o : Ordering) → lies k t key ≡ o → (p : Ordering) → lies kind text key ≡ p
        → (with_pair k t n ks ≡ ks → with_pair k t n (with_pair kind text n ks) ≡ with_pair kind text n ks)
        → with_pair k t n (step kind text n key ks p) ≡ step kind text n key ks p
    at Less e p f rest = absurd (omega (arith, ap length (had-as _ e)))
    at Equal e Less f _ = first (after (bytes_of k t) (bytes_of kind text) (key_bytes key) f e)
    at Equal e Equal f _ = cc
    at Equal e Greater f _ = cc
    at Greater e Less f _ = first (further_after (bytes_of k t) (bytes_of kind text) (key_bytes key) f e)
    at Greater e Equal f _ = cc
    at Greater e Greater f rest = grind (arith, step, with_pair, drop)

    go : (o : Ordering) → lies k t key ≡ o → (p : Ordering) → lies kind text key ≡ p
        → (with_pair k t n ks ≡ ks → with_pair k t n (with_pair kind text n ks) ≡ with_pair kind text n ks)
        → with_pair k t n (with_pair kind text n (key ∷ ks)) ≡ with_pair kind text n (key ∷ ks)
    go o e p f rest = rw (ap (step kind text n key ks) f) (at o e p f rest)
