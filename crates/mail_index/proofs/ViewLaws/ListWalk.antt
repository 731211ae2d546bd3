-- Each step of the walk over posting lists keeps the question the same: whether the rest of the directory has such
-- lists.
use Rattle.mail_index.proofs.Words.{◌≡◌, ◌↔◌, ℕ, suc, ◌+◌, ◌-◌, ◌<◌, Bool, true, false, List, length, take, drop, arith, u64_at, end_before, list_at, IsList, AreLists}

lists_first : (messages : ℕ) (postings : List ℕ) (n i : ℕ) (d : List ℕ) → i < n → AreLists messages postings (n - i) d
    → AreLists messages postings (suc (n - (i + 1))) d
lists_first messages postings n i d l h = grind arith

pub lists_step : (P : Type 0) (messages : ℕ) (postings : List ℕ) (n i : ℕ) (d after list : List ℕ) (b : Bool) → i < n
    → (P ↔ AreLists messages postings (n - i) d) → after ≡ drop 24 d → list ≡ list_at postings d
    → ((b ≡ true) ↔ IsList messages list) → b ≡ true → P ↔ AreLists messages postings (n - (i + 1)) after
lists_step P messages postings n i d _ _ b l h eb el s t =
    let e : n - i ≡ suc (n - (i + 1)) = omega arith in grind (arith, lists_first)

pub lists_stop : (P : Type 0) (messages : ℕ) (postings : List ℕ) (n i : ℕ) (d list : List ℕ) (b : Bool) → i < n
    → (P ↔ AreLists messages postings (n - i) d) → list ≡ list_at postings d
    → ((b ≡ true) ↔ IsList messages list) → b ≡ false → P → ⊥
lists_stop P _ _ n i d _ b l h el s f q = grind (arith, lists_first)

pub list_is : (list postings d after : List ℕ) (p e : ℕ) → list ≡ take (e - p) (drop p postings) → p ≡ u64_at d 16 → e
    ≡ end_before after (length postings) → after ≡ drop 24 d → list ≡ list_at postings d
list_is _ _ d _ p e h q r b = grind (arith, end_before)
