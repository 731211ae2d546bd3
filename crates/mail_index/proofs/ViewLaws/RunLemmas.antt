-- The keys of a kind whose texts begin with a text follow one another, because sorted keys compare with them in rising
-- order.
use Rattle.mail_index.proofs.Words.{◌≡◌, ◌∙◌, ℕ, zero, suc, ◌+◌, ◌-◌, ◌<◌, ◌≤◌, Bool, true, false, cond, ◌&&◌, List, [], ◌∷◌, length, take, drop, get_or, refl, sym, ap, ap₂, arith, length-drop, nat_eq, bytes_eq, Ordering, Less, Equal, Greater, nat_cmp, is_eq, is_lt, ordering_index, ordering_then, slice_cmp, filter, starts_with, length-map, get_or-map, get_or-drop, drop_more, nat_tests, ranked, is_eq-slice_cmp, Less-from_sorted, bytes_eq-Decides, Kind, kind_number, Key, is_of_kind, AreSorted, keys_of, keys_beginning}
use Rattle.mail_index.specs.Inside.KeyRuns.{lies_to_run, keys_between}
use Rattle.mail_index.proofs.ViewLaws.KindNumbers.{tied}
use Rattle.mail_index.proofs.ViewLaws.LookUpLemmas.{key_bytes}

-- ---- sorted keys compare with a run in rising order

-- how the front of a list compares with another list
abbrev front_lies : List ℕ → List ℕ → Ordering
front_lies wanted bytes = slice_cmp nat_cmp (take (length wanted) bytes) wanted

fronts-rise : (wanted a b : List ℕ) → slice_cmp nat_cmp a b ≡ Less
    → ordering_index (front_lies wanted a) ≤ ordering_index (front_lies wanted b)
fronts-rise [] a b h = omega arith
fronts-rise (w ∷ ws) [] b h = omega arith
fronts-rise (w ∷ ws) (x ∷ xs) [] h = absurd cc
fronts-rise (w ∷ ws) (x ∷ xs) (y ∷ ys) h = go _ _ refl refl h (λ e. fronts-rise ws xs ys e)
  where
    go : (o p : Ordering) → nat_cmp x y ≡ o → nat_cmp x w ≡ p → ordering_then o (slice_cmp nat_cmp xs ys) ≡ Less
        → (slice_cmp nat_cmp xs ys ≡ Less → ordering_index (front_lies ws xs) ≤ ordering_index (front_lies ws ys))
        → ordering_index (ordering_then p (front_lies ws xs)) ≤ ordering_index
        (ordering_then (nat_cmp y w) (front_lies ws ys))
    go o p h h2 h3 h4 = grind (arith, ranked, tied)

pub runs-rise : (kind : Kind) (text : List ℕ) (ks : List Key) (d : Key) (i j : ℕ) → AreSorted ks → i ≤ j → j < length ks
    → ordering_index (lies_to_run kind text (get_or ks i d)) ≤ ordering_index (lies_to_run kind text (get_or ks j d))
runs-rise kind text ks d i j sorted le within = go (nat_eq i j) refl
  where
    go : (t : Bool) → nat_eq i j ≡ t → ordering_index (lies_to_run kind text (get_or ks i d)) ≤ ordering_index
        (lies_to_run kind text (get_or ks j d))
    go true e = grind (arith, nat_tests, ordering_index)
    go false e = fronts-rise (kind_number kind ∷ text) (key_bytes (get_or ks i d)) (key_bytes (get_or ks j d))
        (ap₂ (slice_cmp nat_cmp) (sym (get_or-map _ _ i d (key_bytes d) (omega arith)))
        (sym (get_or-map _ _ j d (key_bytes d) within))
        ∙ Less-from_sorted _ _ i j _ sorted (grind (arith, nat_tests)) (omega (arith, within, length-map ks key_bytes)))

-- what a comparison of two orderings says about them
pub less_index : (o p : Ordering) → is_lt (nat_cmp (ordering_index o) (ordering_index p)) ≡ true
    → ordering_index o < ordering_index p
less_index o p h = grind (arith, nat_cmp, ordering_index, is_lt, ranked)

pub no_less_index : (o p : Ordering) → is_lt (nat_cmp (ordering_index o) (ordering_index p)) ≡ false
    → ordering_index p ≤ ordering_index o
no_less_index o p h = grind (arith, nat_cmp, ordering_index, is_lt, ranked)

-- ---- the keys of a run

pub bytes_turned : (xs ys : List ℕ) → bytes_eq xs ys ≡ bytes_eq ys xs
bytes_turned xs ys = grind (arith, bytes_eq, bytes_eq-Decides)

-- a key compares as equal with a run exactly if it is one of its keys
in_run : (kind : Kind) (text : List ℕ) (k : Key) → (is_of_kind kind k && starts_with nat_eq k.text text)
    ≡ is_eq (lies_to_run kind text k)
in_run _ _ k = grind (arith, is_of_kind, bytes_turned, is_eq-slice_cmp, kind_number)

beginning-more : (kind : Kind) (text : List ℕ) (k : Key) (ks : List Key) (b : Bool) → is_eq (lies_to_run kind text k)
    ≡ b
    → keys_beginning kind text (k ∷ ks) ≡ cond b (k ∷ keys_beginning kind text ks) (keys_beginning kind text ks)
beginning-more kind text k ks b e = go _ (in_run _ _ k ∙ e)
  where
    go : (of : Bool) → (of && starts_with nat_eq k.text text) ≡ b
        → filter (λ key. starts_with nat_eq key.text text) (cond of (k ∷ keys_of kind ks) (keys_of kind ks))
        ≡ cond b (k ∷ keys_beginning kind text ks) (keys_beginning kind text ks)
    go _ h = grind (arith, keys_beginning)

lies_before : (o : Ordering) → ordering_index o < ordering_index Equal → is_eq o ≡ false
lies_before o h = grind arith

lies_after : (o : Ordering) → ordering_index Greater ≤ ordering_index o → is_eq o ≡ false
lies_after o h = grind arith

lies_among : (o : Ordering) → ordering_index Equal ≤ ordering_index o → ordering_index o < ordering_index Greater
    → is_eq o ≡ true
lies_among o h h2 = grind arith

-- no key of the run comes before the run's first key
beginning-after : (kind : Kind) (text : List ℕ) (ks : List Key) (n : ℕ) (d : Key) → n ≤ length ks
    → ((j : ℕ) → j < n → is_eq (lies_to_run kind text (get_or ks j d)) ≡ false) → keys_beginning kind text ks
    ≡ keys_beginning kind text (drop n ks)
beginning-after _ _ _ zero d _ _ = refl
beginning-after _ _ [] (suc n) d within before = absurd (omega arith)
beginning-after kind text (k ∷ ks) (suc n) d within before = beginning-more _ _ k _ _ (before 0 (omega arith))
    ∙ beginning-after kind text ks n d (omega arith) (λ j lt. before (suc j) (omega arith))

-- the first keys are the run
beginning-first : (kind : Kind) (text : List ℕ) (ks : List Key) (n : ℕ) (d : Key)
    → ((j : ℕ) → j < n → j < length ks → is_eq (lies_to_run kind text (get_or ks j d)) ≡ true)
    → ((j : ℕ) → n ≤ j → j < length ks → is_eq (lies_to_run kind text (get_or ks j d)) ≡ false)
    → keys_beginning kind text ks ≡ take n ks
beginning-first _ _ [] zero d _ _ = refl
beginning-first _ _ [] (suc n) d _ _ = refl
beginning-first kind text (k ∷ ks) zero d among after = beginning-more _ _ k _ _ (after 0 (omega arith) (omega arith))
    ∙ beginning-first kind text ks zero d (λ j lt. absurd (omega arith))
    (λ j le lt. after (suc j) (omega arith) (omega arith))
beginning-first kind text (k ∷ ks) (suc n) d among after =
    beginning-more _ _ k _ _ (among 0 (omega arith) (omega arith))
    ∙ ap (λ (l : List Key). k ∷ l) (beginning-first kind text ks n d
    (λ j lt less. among (suc j) (omega arith) (omega arith)) (λ j le lt. after (suc j) (omega arith) (omega arith)))

-- the run begins at the first key that isn't before it and ends at the first key after it
pub keys_beginning-between : (kind : Kind) (text : List ℕ) (ks : List Key) (low high : ℕ) (d : Key) → low ≤ length ks
    → ((j : ℕ) → j < low → ordering_index (lies_to_run kind text (get_or ks j d)) < ordering_index Equal)
    → ((j : ℕ) → low ≤ j → j < length ks → ordering_index Equal ≤ ordering_index
    (lies_to_run kind text (get_or ks j d)))
    → ((j : ℕ) → j < high → ordering_index (lies_to_run kind text (get_or ks j d)) < ordering_index Greater)
    → ((j : ℕ) → high ≤ j → j < length ks → ordering_index Greater ≤ ordering_index
    (lies_to_run kind text (get_or ks j d)))
    → keys_beginning kind text ks ≡ keys_between low high ks
keys_beginning-between kind text ks low high d within before from until after =
    beginning-after _ _ _ _ d within (λ j lt. lies_before _ (before j lt))
    ∙ beginning-first _ _ _ _ d (λ j lt less. at j (λ k. is_eq (lies_to_run kind text k) ≡ true)
    (lies_among _ (from (low + j) (omega arith) (omega (arith, less, length-drop low ks)))
    (until (low + j) (omega arith)))) (λ j le less. at j (λ k. is_eq (lies_to_run kind text k) ≡ false)
    (lies_after _ (after (low + j) (omega arith) (omega (arith, less, length-drop low ks)))))
  where
    at : (j : ℕ) (P : Key → Type 0) → P (get_or ks (low + j) d) → P (get_or (drop low ks) j d)
    at j P p = rw (get_or-drop _ _ j d) p

-- ---- the keys of a kind are those that begin with no byte

all-kept : (ks : List Key) → filter (λ k. true) ks ≡ ks
all-kept [] = refl
all-kept (k ∷ ks) = ap (λ (l : List Key). k ∷ l) (all-kept ks)

pub keys_beginning-none : (kind : Kind) (ks : List Key) → keys_beginning kind [] ks ≡ keys_of kind ks
keys_beginning-none kind ks = all-kept _

-- ---- the next key of a run

pub between-none : (low high : ℕ) (ks : List Key) → high ≤ low → keys_between low high ks ≡ []
between-none low high ks le = grind (arith, take, drop)

pub between-next : (low high : ℕ) (ks : List Key) (d : Key) → low < high → high ≤ length ks → keys_between low high ks
    ≡ get_or ks low d ∷ keys_between (low + 1) high ks
between-next _ _ _ d less within = grind (arith, drop_more)
