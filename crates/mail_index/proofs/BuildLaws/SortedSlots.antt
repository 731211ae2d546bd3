-- Slots that are sorted by fronts and keys are in the order of their keys, because each front goes with its key, and no
-- slot is there twice.
use Rattle.std.proofs.Common.{arith}
use Rattle.mail_index.proofs.Words.{◌≡◌, ◌<◌, ◌∙◌, ℕ, suc, ◌⊎◌, inl, inr, Bool, true, false, nat_eq, nat_lt, List, [], ◌∷◌, ◌++◌, length, map, get_or, set, Vec, Global, refl, sym, ap, subst, nat_tests, length-append, append-nil, get_or_append_left, get_or-append_seam, Ordering, Less, Equal, Greater, is_lt, ordering_then, ordering_reverse, nat_cmp, slice_cmp, nat_list_cmp_total, AllByRecursion, IsStrictlySortedBy, AreSorted, Key, key_at}
use Rattle.std.specs.List.{swap}
use Rattle.std.specs.Prelude.{IsPermutation, IsSorted}
use Rattle.std.proofs.lemmas.List.Edits.{Swapped, swapped_from_swap, length-swap}
use Rattle.std.proofs.lemmas.List.Sorted.{IsPermutation-keeps, ranks_by, sorted_far, All-permutation, Contains-permutation}
use Rattle.mail_index.specs.declared.build.key_front.Fronted.{Fronted}
use Rattle.mail_index.specs.declared.build.key_order.KeyOrder.{KeyOrder}
use Rattle.mail_index.specs.Inside.KeyFronts.{IsFronted}
use Rattle.mail_index.specs.Inside.KeyMaps.{numbers_of_slots, numbers_in, slots_in, rows, slot_numbers, slot_cmp, IsAmong, IsOrder, AreDistinct, AreInStep, AreNumbered}
use Rattle.mail_index.proofs.ViewLaws.LookUpLemmas.{key_bytes}
use Rattle.mail_index.proofs.BuildLaws.FrontLemmas.{lies-as-fronts}
use Rattle.mail_index.proofs.BuildLaws.KeyMapLemmas.{slot-at, slots-long, among-slot}
use Rattle.mail_index.proofs.Items.{all-at, other-default}

abbrev no_slot : Fronted
no_slot = record { number = 0; front = 0 }

-- ---- the slots of all entries

pub numbered-more : (slots : List Fronted) (slot : Fronted) → AreNumbered slots → slot.number ≡ length slots
    → AreNumbered (slots ++ slot ∷ [])
numbered-more slots slot numbered is i d h = go (nat_lt i (length slots)) refl
  where
    go : (b : Bool) → nat_lt i (length slots) ≡ b → (get_or (slots ++ slot ∷ []) i d).number ≡ i
    go true e =
        let low : i < length slots = grind (arith, nat_tests) in
        ap (λ (s : Fronted). s.number) (get_or_append_left slots (slot ∷ []) d i low) ∙ numbered i d low
    go false e =
        let last : i ≡ length slots = grind (arith, nat_tests, length-append) in
        cc (get_or-append_seam slots slot [] d)

-- ---- no slot is there twice

-- two slots with one number are one
abbrev HasEachOnce : List Fronted → Type 0
HasEachOnce slots = (j k : ℕ) → j < length slots → k < length slots
    → (get_or slots j no_slot).number ≡ (get_or slots k no_slot).number → j ≡ k

once-numbered : (slots : List Fronted) → AreNumbered slots → HasEachOnce slots
once-numbered _ numbered j k h h2 same = sym (numbered j no_slot h) ∙ same ∙ numbered k no_slot h2

-- where the item at a place comes from, after an exchange
record Source (slots : List Fronted) (a b j : ℕ) : Type 0 where
  place : ℕ
  within : place < length slots
  is : get_or (swap slots a b) j no_slot ≡ get_or slots place no_slot
  from : ((j ≡ b) × (place ≡ a)) ⊎ (((j ≡ a) × (place ≡ b)) ⊎ ((j ≡ a → ⊥) × (j ≡ b → ⊥) × (place ≡ j)))

source : (slots : List Fronted) (a b j : ℕ) → a < length slots → b < length slots → j < length slots
    → Source slots a b j
source slots a b j ha hb hj = go (nat_eq j b) refl (nat_eq j a) refl
  where
    swapped : Swapped (λ i. get_or slots i no_slot) (λ i. get_or (swap slots a b) i no_slot) a b
    swapped = swapped_from_swap slots (swap slots a b) a b no_slot ha hb refl

    go : (p : Bool) → nat_eq j b ≡ p → (q : Bool) → nat_eq j a ≡ q → Source slots a b j
    go true e q f =
        let same : j ≡ b = grind (arith, nat_tests) in
        record {
          place = a;
          within = ha;
          is = ap (λ i. get_or (swap slots a b) i no_slot) same ∙ swapped.1;
          from = inl (same, refl);
        }
    go false e true f =
        let same : j ≡ a = grind (arith, nat_tests) in
        record {
          place = b;
          within = hb;
          is = ap (λ i. get_or (swap slots a b) i no_slot) same ∙ swapped.0;
          from = inr (inl (same, refl));
        }
    go false e false f =
        let not_a : j ≡ a → ⊥ = λ same. absurd (grind (arith, nat_tests)) in
        let not_b : j ≡ b → ⊥ = λ same. absurd (grind (arith, nat_tests)) in
        record { place = j; within = hj; is = swapped.2 j not_a not_b; from = inr (inr (not_a, not_b, refl)) }

same-source : (slots : List Fronted) (a b j k : ℕ) (s : Source slots a b j) (t : Source slots a b k)
    → s.place ≡ t.place → j ≡ k
same-source _ a b j k s t same = grind arith

once-swap : (slots : List Fronted) (a b : ℕ) → a < length slots → b < length slots → HasEachOnce slots
    → HasEachOnce (swap slots a b)
once-swap slots a b ha hb once j k hj hk same =
    let long = length-swap slots a b in
    let s = source _ a b j ha hb (omega arith) in
    let t = source _ a b k ha hb (omega arith) in
    grind (arith, same-source)

once-permutation : (before after : List Fronted) → HasEachOnce before → IsPermutation before after
    → HasEachOnce after
once-permutation before after once permutation =
    IsPermutation-keeps before HasEachOnce once (λ l i j h h2 o. once-swap l i j h h2 o) after permutation

-- ---- sorted slots

all-from_places : (P : Fronted → Type 0) (slots : List Fronted)
    → ((i : ℕ) (d : Fronted) → i < length slots → P (get_or slots i d)) → AllByRecursion P slots
all-from_places P [] _ = tt
all-from_places P (slot ∷ slots) each =
    (each 0 slot (omega arith), all-from_places P slots (λ i d h. each (suc i) d (omega arith)))

pub fronted-permutation : (entries : List Key) (before after : List Fronted) → IsPermutation before after
    → AllByRecursion (IsFronted entries) before → AllByRecursion (IsFronted entries) after
fronted-permutation entries before after permutation all =
    all-from_places _ _ (All-permutation (IsFronted entries) _ _ permutation (λ i d h. all-at _ _ i d all h))

-- the later of two slots has the greater key
rising : (entries : List Key) (slots : List Fronted) (i j : ℕ) → i < j → j < length slots → AreDistinct entries
    → AllByRecursion (IsFronted entries) slots → HasEachOnce slots → IsSorted (slot_cmp entries) slots
    → slice_cmp nat_cmp (key_bytes (key_at entries (get_or slots i no_slot).number))
    (key_bytes (key_at entries (get_or slots j no_slot).number)) ≡ Less
rising entries slots i j less low distinct fronted once sorted = go _ refl
  where
    one : Fronted
    one = get_or slots i no_slot

    other : Fronted
    other = get_or slots j no_slot

    is_one : IsFronted entries one
    is_one = grind (arith, all-at, no_slot)

    is_other : IsFronted entries other
    is_other = all-at (IsFronted entries) slots j no_slot fronted low

    far : is_lt (slot_cmp entries other one) ≡ false
    far = sorted_far (λ x y. is_lt (slot_cmp entries x y)) (ranks_by nat_list_cmp_total (slot_numbers entries)) slots
        sorted i j no_slot (omega (arith, less)) low

    before : slice_cmp nat_cmp (key_bytes (key_at entries other.number)) (key_bytes (key_at entries one.number)) ≡ Less
        → (o : Ordering) → o ≡ nat_cmp other.front one.front
        → ordering_then o (slice_cmp nat_cmp (key_bytes (key_at entries other.number))
        (key_bytes (key_at entries one.number))) ≡ Less
    before lower Equal e = lower
    before _ Less e = refl
    before lower Greater e =
        let fronts = lies-as-fronts _ _ _ (key_at entries other.number) other.front is_one.front is_other.front Greater
        e (λ h. absurd cc) in
        absurd cc

    go : (o : Ordering)
        → slice_cmp nat_cmp (key_bytes (key_at entries one.number)) (key_bytes (key_at entries other.number)) ≡ o
        → o ≡ Less
    go Less e = refl
    go Equal e =
        let turned =
        nat_list_cmp_total.antisymm (key_bytes (key_at entries other.number)) (key_bytes (key_at entries one.number))
        ∙ ap ordering_reverse e in
        let same = once i j (omega arith) low (distinct one.number other.number is_one.within is_other.within turned) in
        absurd (omega arith)
    go Greater e =
        let lower =
        nat_list_cmp_total.antisymm (key_bytes (key_at entries other.number)) (key_bytes (key_at entries one.number))
        ∙ ap ordering_reverse e in
        let both = sym (ap is_lt (before lower (nat_cmp other.front one.front) refl)) ∙ far in
        absurd cc

all-by_place : (xs : List ℕ) (ks : List Key)
    → ((i : ℕ) → i < length ks → slice_cmp nat_cmp xs (key_bytes (key_at ks i)) ≡ Less)
    → AllByRecursion (λ y. slice_cmp nat_cmp xs y ≡ Less) (map key_bytes ks)
all-by_place _ [] _ = tt
all-by_place xs (k ∷ ks) each = (each 0 (omega arith), all-by_place xs ks (λ i h. each (suc i) (omega arith)))

sorted-by_place : (ks : List Key) → ((i j : ℕ) → i < j → j < length ks
    → slice_cmp nat_cmp (key_bytes (key_at ks i)) (key_bytes (key_at ks j)) ≡ Less) → AreSorted ks
unfolding IsStrictlySortedBy
sorted-by_place [] _ = tt
sorted-by_place (k ∷ ks) each = (
  all-by_place (key_bytes k) _ (λ i h. each 0 (suc i) (omega arith) (omega arith)),
  sorted-by_place ks (λ i j h h2. each (suc i) (suc j) (omega arith) (omega arith)),
)

within-slots : (entries : List Key) (slots : List Fronted) → AllByRecursion (IsFronted entries) slots
    → AllByRecursion (λ i. i < length entries) (numbers_of_slots slots)
within-slots _ [] _ = tt
within-slots entries (slot ∷ slots) all = (all.0.within, within-slots entries slots all.1)

order-sorted : (entries : List Key) (slots : List Fronted) → AreDistinct entries
    → AllByRecursion (IsFronted entries) slots → HasEachOnce slots → IsSorted (slot_cmp entries) slots
    → IsOrder entries (numbers_of_slots slots)
order-sorted entries slots distinct fronted once sorted = record {
  sorted = sorted-by_place _ (λ i j h h2.
      let long = slots-long entries slots in
      let low : j < length slots = omega arith in
      rw (slot-at entries slots i no_slot (omega arith))
      (rw (slot-at entries _ j no_slot low) (rising _ _ i j h low distinct fronted once sorted)));
  within = within-slots _ _ fronted;
}

-- ---- one page

pub only-page : (pages : List (Vec Fronted Global)) (page : Vec Fronted Global) → length pages ≡ 1
    → set pages 0 page ≡ page ∷ []
only-page [] _ h = absurd (omega arith)
only-page (_ ∷ []) _ h = refl
only-page (_ ∷ _ ∷ rest) _ h = absurd (omega arith)

one-page : (order : KeyOrder) (slots : List Fronted) → rows order.pages.items ≡ slots ∷ []
    → order.heads.items ≡ [] → slots_in order ≡ slots
one-page _ _ page none = grind (arith, append-nil)

pub sorted-step : (entries : List Key) (before after : List Fronted) (order : KeyOrder)
    → rows order.pages.items ≡ after ∷ [] → order.heads.items ≡ [] → length order.pages.items ≡ 1
    → AreDistinct entries → AreNumbered before → AllByRecursion (IsFronted entries) before
    → IsPermutation before after → IsSorted (slot_cmp entries) after → AreInStep entries order
sorted-step entries before after order page none one distinct numbered fronted permutation sorted =
    let all = fronted-permutation _ _ _ permutation fronted in
    let is = one-page order _ page none in
    record {
      between = omega (arith, ap length none);
      sorts = subst (λ l. IsOrder entries (numbers_of_slots l)) (sym is)
          (order-sorted _ _ distinct all (once-permutation _ _ (once-numbered _ numbered) permutation) sorted);
      fronted = grind arith;
    }

pub sorted-all : (before after : List Fronted) (order : KeyOrder) → rows order.pages.items ≡ after ∷ []
    → order.heads.items ≡ [] → AreNumbered before → IsPermutation before after → (i : ℕ) → i < length before
    → IsAmong i (numbers_in order)
sorted-all before after order page none numbered permutation i low =
    let found = Contains-permutation _ _ (get_or before i no_slot) permutation (i, low, same i low) in
    subst (λ l. IsAmong i (numbers_of_slots l)) (sym (one-page order _ page none))
    (rw (← (ap (λ (s : Fronted). s.number) found.2 ∙ numbered i no_slot low)) (among-slot _ _ _ found.1))
  where
    same : (i : ℕ) → i < length before → get_or before i (get_or before i no_slot) ≡ get_or before i no_slot
    same i h = other-default _ i _ _ h
