-- A search makes few comparisons, because each of them halves the keys; and without a match it makes many.
use Rattle.mail_index.proofs.Words.{◌≡◌, ◌∙◌, ℕ, zero, suc, ◌+◌, ◌-◌, ◌/◌, ◌^◌, ◌<◌, ◌≤◌, List, [], ◌∷◌, length, take, drop, get_or, refl, ap, arith, length-drop, length-take-le, take-take, drop-drop, Ordering, Less, Equal, Greater, drop-take, drop_more, Kind, Key, lies_to, comparisons, comparisons_within, is_key, is_eq, sym, AllByRecursion, false}
use Rattle.mail_index.specs.Inside.KeyRuns.{keys_between}
use Rattle.mail_index.proofs.ViewLaws.LookUpLemmas.{halves, half_digits, is_key-as}
use Rattle.mail_index.proofs.Items.{all-at, all-take, all-drop}
use Rattle.mail_index.proofs.ViewLaws.RunLemmas.{between-next}

-- ---- one comparison

-- how many comparisons come after that with the key in the middle
abbrev pub left : ℕ → Kind → List ℕ → Ordering → List Key → List Key → ℕ
left most kind text Less before after = comparisons_within most kind text after
left most kind text Equal before after = 0
left most kind text Greater before after = comparisons_within most kind text before

comparisons-more : (most : ℕ) (kind : Kind) (text : List ℕ) (ks : List Key) (k : Key) (before after : List Key)
    (o : Ordering)
    → drop (length ks / 2) ks ≡ k ∷ after → take (length ks / 2) ks ≡ before → lies_to kind text k ≡ o
    → comparisons_within (suc most) kind text ks ≡ suc (left most kind text o before after)
comparisons-more _ _ _ _ k _ _ o h h2 h3 = grind (arith, comparisons_within)

-- ---- there are few comparisons

left-few : (most : ℕ) (kind : Kind) (text : List ℕ) (o : Ordering) (before after : List Key) (few : ℕ)
    → comparisons_within most kind text before ≤ few → comparisons_within most kind text after ≤ few
    → left most kind text o before after ≤ few
left-few _ _ _ o _ _ _ h h2 = grind arith

pub comparisons-few : (most : ℕ) (kind : Kind) (text : List ℕ) (ks : List Key) (digits : ℕ) → length ks < 2 ^ digits
    → comparisons_within most kind text ks ≤ digits
comparisons-few zero _ _ _ _ h = omega arith
comparisons-few (suc most) _ _ [] _ h = omega arith
comparisons-few (suc most) kind text (k ∷ ks) digits h =
    let keys : List Key = k ∷ ks in
    let n : ℕ = length keys / 2 in
    let within : n < length keys = omega arith in
    let half = halves (length keys) digits (omega arith) h in
    let met : Key = get_or keys n k in
    let counted = comparisons-more most kind text keys met (take n keys) (drop (n + 1) keys) (lies_to kind text met)
    (drop_more keys n k within) refl refl in
    let few = left-few most kind text (lies_to kind text met) (take n keys) (drop (n + 1) keys) half.fewer
    (comparisons-few most kind text (take n keys) half.fewer
    (omega (arith, half.lower, length-take-le n keys (omega (arith, within)))))
    (comparisons-few most kind text (drop (n + 1) keys) half.fewer
    (omega (arith, half.upper, length-drop (n + 1) keys))) in
    omega (arith, counted, few, half.digits_are)

-- ---- there are many if no key is the searched one

left-many : (most : ℕ) (kind : Kind) (text : List ℕ) (o : Ordering) (before after : List Key) (many : ℕ) → is_eq o
    ≡ false
    → many ≤ comparisons_within most kind text before → many ≤ comparisons_within most kind text after
    → many ≤ left most kind text o before after
left-many _ _ _ o _ _ _ other h h2 = grind arith

pub comparisons-many : (most : ℕ) (kind : Kind) (text : List ℕ) (ks : List Key) (digits : ℕ) → length ks ≤ most
    → AllByRecursion (λ k. is_key kind text k ≡ false) ks
    → 2 ^ digits ≤ suc (length ks) → digits ≤ comparisons_within most kind text ks
comparisons-many _ _ _ _ zero enough none h = omega arith
comparisons-many zero _ _ ks (suc fewer) enough none h = absurd (omega (arith, enough, half_digits (length ks) fewer h))
comparisons-many (suc most) _ _ [] (suc fewer) enough none h = absurd (omega (arith, half_digits 0 fewer h))
comparisons-many (suc most) kind text (k ∷ ks) (suc fewer) enough none h =
    let keys : List Key = k ∷ ks in
    let n : ℕ = length keys / 2 in
    let within : n < length keys = omega arith in
    let half = half_digits (length keys) fewer h in
    let met : Key = get_or keys n k in
    let counted = comparisons-more most kind text keys met (take n keys) (drop (n + 1) keys) (lies_to kind text met)
    (drop_more keys n k within) refl refl in
    let many = left-many most kind text (lies_to kind text met) (take n keys) (drop (n + 1) keys) fewer
    (sym (is_key-as kind text met (lies_to kind text met) refl)
    ∙ (all-at (λ key. is_key kind text key ≡ false) keys n k none within))
    (comparisons-many most kind text (take n keys) fewer
    (omega (arith, enough, length-take-le n keys (omega (arith, within))))
    (all-take (λ key. is_key kind text key ≡ false) n keys none)
    (omega (arith, half.1, length-take-le n keys (omega (arith, within)))))
    (comparisons-many most kind text (drop (n + 1) keys) fewer (omega (arith, enough, length-drop (n + 1) keys))
    (all-drop (λ key. is_key kind text key ≡ false) (n + 1) keys none)
    (omega (arith, half.2, length-drop (n + 1) keys))) in
    omega (arith, counted, many)

pub comparisons-some : (kind : Kind) (text : List ℕ) (ks : List Key) → 0 < length ks → 0 < comparisons kind text ks
comparisons-some _ _ [] h = absurd (omega (arith, h))
comparisons-some kind text (k ∷ ks) h =
    let keys : List Key = k ∷ ks in
    let n : ℕ = length keys / 2 in
    let met : Key = get_or keys n k in
    let counted = comparisons-more (length ks) kind text keys met (take n keys) (drop (n + 1) keys)
    (lies_to kind text met) (drop_more keys n k (omega arith)) refl refl in
    omega (arith, counted)

-- ---- keys from one number to another

length-between : (low high : ℕ) (ks : List Key) → high ≤ length ks → length (keys_between low high ks) ≡ high - low
length-between low high ks within = length-take-le _ _ (omega (arith, within, length-drop low ks))

from_place : (low high n : ℕ) (ks : List Key) (d : Key) → low + n < high → high ≤ length ks
    → drop n (keys_between low high ks) ≡ get_or ks (low + n) d ∷ keys_between (low + n + 1) high ks
from_place low high n ks d less within =
    ap (λ (m : ℕ). drop n (take m (drop low ks))) (omega arith) ∙ drop-take n _ _ ∙ ap (take _) (drop-drop n _ _)
    ∙ between-next _ _ _ d less within

before_place : (low high n : ℕ) (ks : List Key) → low + n < high → take n (keys_between low high ks)
    ≡ keys_between low (low + n) ks
before_place _ _ n _ less = grind (arith, take-take)

-- how a search goes on after the key in the middle compared in this way
pub record Compared (most : ℕ) (kind : Kind) (text : List ℕ) (ks : List Key) (low high : ℕ) (o : Ordering) : Type 0
  where
    pub fewer : ℕ
    pub enough : high - low ≤ suc fewer
    pub counted : comparisons_within most kind text (keys_between low high ks)
        ≡ suc (left fewer kind text o (keys_between low (low + (high - low) / 2) ks)
        (keys_between (low + (high - low) / 2 + 1) high ks))

pub compared : (most : ℕ) (kind : Kind) (text : List ℕ) (ks : List Key) (low high : ℕ) (d : Key) (o : Ordering)
    → low < high → high ≤ length ks → high - low ≤ most
    → lies_to kind text (get_or ks (low + (high - low) / 2) d) ≡ o → Compared most kind text ks low high o
compared zero _ _ _ _ _ d o some within enough lies = absurd (omega arith)
compared (suc most) kind text ks low high d o some within enough lies =
    let n : ℕ = (high - low) / 2 in
    let row = keys_between low high ks in
    let half = ap (λ (k : ℕ). k / 2) (length-between _ _ _ within) in
    let inside : low + n < high = omega arith in
    record {
      fewer = most;
      enough = enough;
      counted = comparisons-more _ _ _ _ _ _ _ o (ap (λ (k : ℕ). drop k row) half ∙ from_place _ _ n _ d inside within)
          (ap (λ (k : ℕ). take k row) half ∙ before_place _ _ n _ inside) lies;
    }
