-- A look through a window finds each key that has an entry, because no slot before that of an entry is ever vacant.
use Rattle.std.proofs.Common.{arith}
use Rattle.mail_index.proofs.Words.{◌≡◌, ◌+◌, ◌/◌, ◌^◌, ◌<◌, ◌≤◌, ◌∙◌, ℕ, suc, Bool, true, false, nat_eq, nat_lt, List, [], ◌∷◌, ◌++◌, length, set, get_or, refl, sym, ap, ap₂, subst, inl, inr, nat_tests, length-append, length-set, get_or-set_same, get_or-set_other, get_or_append_left, get_or-append_seam, Equal, Some, Kind, Key, key_at, no_key, lies_to, nat_list_cmp_total, ordering_reverse, kind_number, ◌-◌, insert, Result, Ok, Err, OnOk, OnErr}
use Rattle.mail_index.specs.declared.build.key_order.KeyOrder.{KeyOrder}
use Rattle.mail_index.specs.declared.build.key_order.Place.{Place}
use Rattle.mail_index.specs.declared.build.key_table.KeyTable.{KeyTable}
use Rattle.mail_index.specs.declared.build.key_table.Found.TheVariants.{Vacant, Full}
use Rattle.mail_index.specs.Inside.KeyMaps.{new_key, with_one, numbers_in, slots_in, keys_in, IsAmong, IsPartOf, IsGap, AreDistinct, AreInStep, IsOrder, IsPlaceFor, place_in, slot_for, numbers_of_slots}
use Rattle.mail_index.specs.Inside.KeyTables.{hash_of, hash_at, number_at, IsInWindow, AreFilled, IsFull, IsReached, IsReachable, AreReachable, IsKeyMap, IsLookOf, IsVacancy, IsAbsent}
use Rattle.mail_index.proofs.Words.{with_pair}
use Rattle.mail_index.specs.Inside.KeyMaps.{in_key_order}
use Rattle.mail_index.proofs.BuildLaws.InKeyOrder.{in_key_order-new, in_key_order-found, length-in_key_order}
use Rattle.mail_index.proofs.BuildLaws.PairLaw.{keys-same}
use Rattle.mail_index.proofs.BuildLaws.FrontLemmas.{fronted-more, fronted-new, fronted-found}
use Rattle.mail_index.proofs.BuildLaws.KeyMapLemmas.{order-more, order-new, order-placed, order-found, gap-absent, all-inserted, among-new, among-kept, numbers-insert}

-- ---- what was not found

same_hash : (kind : Kind) (text : List ℕ) (k : Key) → lies_to kind text k ≡ Equal
    → hash_of k.kind k.text ≡ hash_of kind text
same_hash kind text k equal =
    let same = keys-same _ _ _ _ equal in ap₂ hash_of same.0 same.1

-- an entry of the key is reached, or the window is full and the order has it
kept-as : (kind : Kind) (text : List ℕ) (entries : List Key) (table : KeyTable) (order : KeyOrder) (i : ℕ)
    → i < length entries → AreReachable entries table order (length entries) → lies_to kind text (key_at entries i)
    ≡ Equal
    → IsReachable table order (hash_of kind text) (length entries) i
kept-as kind text entries table order i low kept equal = grind (arith, length, same_hash, key_at)

pub absent-vacant : (kind : Kind) (text : List ℕ) (entries : List Key) (table : KeyTable) (order : KeyOrder)
    (slot : ℕ) → AreReachable entries table order (length entries)
    → IsLookOf kind text entries table (hash_of kind text) (Vacant slot) → IsAbsent kind text entries
absent-vacant kind text entries table order slot kept found i low equal =
    elim (kept-as _ _ _ _ order i low kept equal) [
      | inl reached ↦ go reached (nat_lt reached.slot slot) refl (nat_lt slot reached.slot) refl
      | inr full ↦ grind arith
    ]
  where
    go : (reached : IsReached table (hash_of kind text) (length entries) i) → (t : Bool)
        → nat_lt reached.slot slot ≡ t → (u : Bool) → nat_lt slot reached.slot ≡ u → ⊥
    go reached true e u f = grind (arith, lies_to, key_at)
    go reached false e true f = grind arith
    go reached false e false f = grind (arith, number_at)

pub absent-full : (kind : Kind) (text : List ℕ) (entries : List Key) (table : KeyTable) (order : KeyOrder)
    (place : ℕ) → AreReachable entries table order (length entries)
    → IsLookOf kind text entries table (hash_of kind text) Full → AreInStep entries order
    → IsGap kind text (keys_in entries order) place → IsAbsent kind text entries
absent-full kind text entries table order place kept found step gap i low equal =
    elim (kept-as _ _ _ _ order i low kept equal) [
      | inl reached ↦ grind (arith, lies_to, key_at)
      | inr full ↦ gap-absent _ _ _ _ _ i step.sorts gap full.1 equal
    ]

-- ---- a look through a window

-- ---- a number that is put into a vacant slot

-- table u is table t after a number below the count was put into a vacant slot
record IsPut (t u : KeyTable) (count slot value : ℕ) : Type 0 where
  numbers : u.numbers.items ≡ set t.numbers.items slot value
  left_out : u.left_out ≡ t.left_out
  within : slot < length t.numbers.items

number-put : (t u : KeyTable) (count slot value s : ℕ) → IsPut t u count slot value → (b : Bool) → nat_eq s slot ≡ b
    → number_at u s ≡ (elim b [ true ↦ value | false ↦ number_at t s ])
number-put t u _ slot value s put true e = grind (arith, get_or, set, get_or-set_same)
number-put t u _ slot value s put false e = grind (arith, get_or, get_or-set_other)

window-put : (t u : KeyTable) (count slot value hash s : ℕ) → IsPut t u count slot value → IsInWindow t hash s
    → IsInWindow u hash s
window-put t u _ _ _ _ s put inside = grind (arith, length-set)

window-from : (t u : KeyTable) (count slot value hash s : ℕ) → IsPut t u count slot value → IsInWindow u hash s
    → IsInWindow t hash s
window-from t u _ _ _ _ s put inside = grind (arith, length-set)

filled-put : (t u : KeyTable) (count more slot value hash end : ℕ) → IsPut t u count slot value → count ≤ more
    → value < more → AreFilled t hash count end → AreFilled u hash more end
filled-put t u count more slot value hash _ put le low filled s inside before = go (nat_eq s slot) refl
  where
    go : (b : Bool) → nat_eq s slot ≡ b → number_at u s < more
    go true e = let is = number-put t u _ _ _ s put _ e in omega arith
    go false e =
        let is = number-put t u _ _ _ s put _ e in
        let old = filled s (window-from t u _ _ _ _ s put inside) before in
        omega arith

full-put : (t u : KeyTable) (count more slot value hash : ℕ) → IsPut t u count slot value → count ≤ more
    → value < more → IsFull t hash count → IsFull u hash more
full-put t u count more slot value hash put le low full s inside =
    filled-put t u _ _ _ _ _ (suc s) put le low (λ s inside _. full s inside) s inside (omega arith)

reached-put : (t u : KeyTable) (count more slot value hash i : ℕ) → IsPut t u count slot value → count ≤ more
    → value < more → count ≤ number_at t slot → i < count → IsReached t hash count i → IsReached u hash more i
reached-put t u count more slot value hash i put le low vacant few reached = record {
  slot = reached.slot;
  inside = window-put t u _ _ _ _ _ put reached.inside;
  here = go (nat_eq reached.slot slot) refl;
  before = filled-put t u _ _ _ _ _ _ put le low reached.before;
}
  where
    go : (b : Bool) → nat_eq reached.slot slot ≡ b → number_at u reached.slot ≡ i
    go true e = grind (arith, number_at)
    go false e = number-put t u _ _ _ _ put _ e ∙ reached.here

kept-put : (t u : KeyTable) (order : KeyOrder) (count more slot value hash i : ℕ) → IsPut t u count slot value
    → count ≤ more → value < more → count ≤ number_at t slot → i < count → IsReachable t order hash count i
    → IsReachable u order hash more i
kept-put t u _ count more slot value hash i put le low vacant few kept = elim kept [
  | inl reached ↦ inl (reached-put t u _ _ _ _ _ i put le low vacant few reached)
  | inr full ↦ inr (full-put t u _ _ _ _ _ put le low full.0, full.1)
]

put-reached : (t u : KeyTable) (count more slot value hash : ℕ) → IsPut t u count slot value → count ≤ more
    → value < more → IsVacancy t hash count (Some slot) → IsReached u hash more value
put-reached t u count more slot value hash put le low vacancy = record {
  slot = slot;
  inside = window-put t u _ _ _ _ _ put vacancy.0;
  here = number-put t u _ _ _ _ put true (grind (arith, nat_tests));
  before = filled-put t u _ _ _ _ _ _ put le low vacancy.2;
}

-- ---- all entries

pub kept-part : (entries : List Key) (table : KeyTable) (old new : KeyOrder) (end : ℕ)
    → IsPartOf (numbers_in old) (numbers_in new) → AreReachable entries table old end
    → AreReachable entries table new end
kept-part _ _ _ _ _ part kept i low = elim (kept i low) [
  | inl reached ↦ inl reached
  | inr full ↦ inr (full.0, part i full.1)
]

pub kept-order : (entries : List Key) (table : KeyTable) (old new : KeyOrder) (number : ℕ)
    → IsPartOf (numbers_in old) (numbers_in new) → IsAmong number (numbers_in new)
    → IsFull table (hash_at entries number) (length entries) → AreReachable entries table old number
    → AreReachable entries table new (number + 1)
kept-order entries table old new number part among full kept i h = go (nat_eq i number) refl
  where
    go : (b : Bool) → nat_eq i number ≡ b → IsReachable table new (hash_at entries i) (length entries) i
    go true e = grind arith
    go false e = kept-part _ _ old new _ part kept i (grind (arith, nat_tests))

-- ---- one more entry

key-kept : (entries : List Key) (k : Key) (i : ℕ) → i < length entries → key_at (entries ++ k ∷ []) i
    ≡ key_at entries i
key-kept entries k i low = get_or_append_left entries (k ∷ []) no_key i low

key-last : (entries : List Key) (k : Key) → key_at (entries ++ k ∷ []) (length entries) ≡ k
key-last entries k = get_or-append_seam entries k [] no_key

longer : (entries : List Key) (k : Key) → length (entries ++ k ∷ []) ≡ suc (length entries)
longer entries k = omega (arith, length-append entries (k ∷ []))

distinct-new : (kind : Kind) (text : List ℕ) (n : ℕ) (entries : List Key) → AreDistinct entries
    → IsAbsent kind text entries → AreDistinct (entries ++ new_key kind text n ∷ [])
distinct-new kind text n entries distinct absent i j h h2 equal =
    go (nat_eq i (length entries)) refl (nat_eq j (length entries)) refl
  where
    new : Key
    new = new_key kind text n

    long : length (entries ++ new_key kind text n ∷ []) ≡ suc (length entries)
    long = longer _ _

    -- how key j compares with key i, if these are the keys
    compared : (a b : Key) → key_at (entries ++ new_key kind text n ∷ []) i ≡ a
        → key_at (entries ++ new_key kind text n ∷ []) j ≡ b → lies_to a.kind a.text b ≡ Equal
    compared a b e f = rw (← e) (rw (← f) equal)

    go : (b : Bool) → nat_eq i (length entries) ≡ b → (d : Bool) → nat_eq j (length entries) ≡ d → i ≡ j
    go true e true f = grind (arith, nat_tests)
    go true e false f =
        let low : j < length entries = grind (arith, nat_tests, long) in
        absurd (absent j low (compared _ _ (ap (key_at (entries ++ new_key kind text n ∷ [])) (grind (arith, nat_tests))
        ∙ key-last entries _) (key-kept _ _ j low)))
    go false e true f =
        let low : i < length entries = grind (arith, nat_tests, long) in
        let same = compared (key_at entries i) new (key-kept _ _ i low)
        (ap (key_at (entries ++ new_key kind text n ∷ [])) (grind (arith, nat_tests)) ∙ key-last entries new) in
        absurd (absent i low (nat_list_cmp_total.antisymm
        (kind_number (key_at entries i).kind ∷ (key_at entries i).text) (kind_number kind ∷ text)
        ∙ ap ordering_reverse same))
    go false e false f =
        let low : i < length entries = grind (arith, nat_tests, long) in
        let low2 : j < length entries = grind (arith, nat_tests, long) in
        grind (arith, key-kept)

pub step-more : (k : Key) (entries : List Key) (order : KeyOrder) → AreInStep entries order
    → AreInStep (entries ++ k ∷ []) order
step-more k entries order step = record {
  between = step.between;
  sorts = order-more k _ _ step.sorts;
  fronted = fronted-more k _ _ step.fronted;
}

-- the hashes of the entries and of one more
hash-kept : (entries : List Key) (k : Key) (i : ℕ) → i < length entries → hash_at (entries ++ k ∷ []) i
    ≡ hash_at entries i
hash-kept entries k i low = ap (λ (j : Key). hash_of j.kind j.text) (key-kept _ k i low)

hash-last : (entries : List Key) (k : Key) → hash_at (entries ++ k ∷ []) (length entries) ≡ hash_of k.kind k.text
hash-last entries k = ap (λ (j : Key). hash_of j.kind j.text) (key-last entries k)

-- a key that has an entry and a slot now
pub map-slot : (kind : Kind) (text : List ℕ) (n : ℕ) (entries : List Key) (t u : KeyTable) (order : KeyOrder)
    (sorted slot : ℕ) → IsKeyMap entries t order sorted → IsAbsent kind text entries
    → IsVacancy t (hash_of kind text) (length entries) (Some slot)
    → u.numbers.items ≡ set t.numbers.items slot (length entries) → u.left_out ≡ t.left_out
    → IsKeyMap (entries ++ new_key kind text n ∷ []) u order sorted
map-slot kind text n entries t u order _ slot is absent vacancy numbers left_out =
    let long = longer entries (new_key kind text n) in
    record {
      distinct = distinct-new _ _ n _ is.distinct absent;
      step = step-more _ _ _ is.step;
      kept = λ i h. kept i (omega arith) (nat_eq i (length entries)) refl;
      within = omega arith;
      first = is.first;
    }
  where
    put : IsPut t u (length entries) slot (length entries)
    put = grind arith

    kept : (i : ℕ) → i < suc (length entries) → (b : Bool) → nat_eq i (length entries) ≡ b
        → IsReachable u order (hash_at (entries ++ new_key kind text n ∷ []) i)
        (length (entries ++ new_key kind text n ∷ [])) i
    kept i h true e =
        let same : length entries ≡ i = grind (arith, nat_tests) in
        rw (← same) (rw (hash-last _ _) (inl (put-reached t u _ _ _ _ _ put (omega (arith, longer))
        (omega (arith, longer)) vacancy)))
    kept i h false e =
        let low : i < length entries = grind (arith, nat_tests) in
        rw (hash-kept _ _ i low) (kept-put t u order _ _ _ _ _ i put (omega (arith, longer)) (omega (arith, longer))
        vacancy.1 low (is.kept i low))

full-more : (table : KeyTable) (hash count more : ℕ) → count ≤ more → IsFull table hash count
    → IsFull table hash more
full-more table _ count _ le full slot inside = omega arith

kept-more : (table : KeyTable) (old new : KeyOrder) (hash count more i : ℕ) → count ≤ more
    → IsPartOf (numbers_in old) (numbers_in new) → IsReachable table old hash count i
    → IsReachable table new hash more i
kept-more table _ _ hash count more i le part kept = elim kept [
  | inl reached ↦ grind arith
  | inr full ↦ inr (full-more _ _ _ _ le full.0, part i full.1)
]

-- a key that has an entry and a place in the order now
pub map-order : (kind : Kind) (text : List ℕ) (n : ℕ) (entries : List Key) (table : KeyTable) (old new : KeyOrder)
    (sorted : ℕ) → IsKeyMap entries table old sorted → IsAbsent kind text entries
    → IsFull table (hash_of kind text) (length entries) → AreInStep (entries ++ new_key kind text n ∷ []) new
    → IsPartOf (numbers_in old) (numbers_in new) → IsAmong (length entries) (numbers_in new)
    → IsKeyMap (entries ++ new_key kind text n ∷ []) table new sorted
map-order kind text n entries table old new _ is absent full step part among =
    let long = longer entries (new_key kind text n) in
    record {
      distinct = distinct-new _ _ n _ is.distinct absent;
      step = step;
      kept = λ i h. kept i (omega arith) (nat_eq i (length entries)) refl;
      within = omega arith;
      first = λ i h. part i (is.first i h);
    }
  where
    kept : (i : ℕ) → i < suc (length entries) → (b : Bool) → nat_eq i (length entries) ≡ b
        → IsReachable table new (hash_at (entries ++ new_key kind text n ∷ []) i)
        (length (entries ++ new_key kind text n ∷ [])) i
    kept i h true e = grind (arith, length, hash-last, new_key, full-more, longer)
    kept i h false e = grind (arith, length, new_key, hash-kept, kept-more, hash_at, longer)

-- ---- one more number

-- an entry with one more number has the same kind and text, as have all others
kind-found : (entries : List Key) (i n j : ℕ) → i < length entries
    → (key_at (set entries i (with_one (key_at entries i) n)) j).kind ≡ (key_at entries j).kind
kind-found entries i n j low = grind (arith, key_at, set, get_or-set_same, no_key, get_or-set_other)

text-found : (entries : List Key) (i n j : ℕ) → i < length entries
    → (key_at (set entries i (with_one (key_at entries i) n)) j).text ≡ (key_at entries j).text
text-found entries i n j low = grind (arith, key_at, set, get_or-set_same, no_key, get_or-set_other)

pub map-found : (entries : List Key) (i n : ℕ) (table : KeyTable) (order : KeyOrder) (sorted : ℕ) → i < length entries
    → IsKeyMap entries table order sorted
    → IsKeyMap (set entries i (with_one (key_at entries i) n)) table order sorted
map-found entries i n table order _ low is =
    let long = length-set entries i (with_one (key_at entries i) n) in
    record {
      distinct = λ j l h h2 equal. is.distinct j l (omega arith) (omega arith) (same j l equal);
      step = record {
        between = is.step.between;
        sorts = order-found _ i n _ low is.step.sorts;
        fronted = fronted-found _ i n _ low is.step.fronted;
      };
      kept = λ j h. rw long (rw (hash-found j) (is.kept j (omega arith)));
      within = omega arith;
      first = is.first;
    }
  where
    hash-found : (j : ℕ) → hash_at (set entries i (with_one (key_at entries i) n)) j ≡ hash_at entries j
    hash-found j = ap₂ hash_of (kind-found _ i n j low) (text-found _ i n j low)

    same : (j l : ℕ) → lies_to (key_at (set entries i (with_one (key_at entries i) n)) j).kind
        (key_at (set entries i (with_one (key_at entries i) n)) j).text
        (key_at (set entries i (with_one (key_at entries i) n)) l) ≡ Equal
        → lies_to (key_at entries j).kind (key_at entries j).text (key_at entries l) ≡ Equal
    same j l equal = grind (arith, kind-found, text-found, kind-found, text-found)

-- ---- a place in the order

numbers-placed : (old new : KeyOrder) (place : Place) (number : ℕ)
    → slots_in new ≡ insert (slots_in old) (place_in old place) (slot_for number place)
    → numbers_in new ≡ insert (numbers_in old) (place_in old place) number
numbers-placed old _ place number slots = ap numbers_of_slots slots ∙ numbers-insert _ _ _

-- the order with the number of an entry at its place
pub step-placed : (entries : List Key) (old new : KeyOrder) (place : Place) (number : ℕ) → number < length entries
    → AreInStep entries old
    → IsPlaceFor (key_at entries number).kind (key_at entries number).text entries old place
    → length new.heads.items ≡ length new.pages.items - 1
    → slots_in new ≡ insert (slots_in old) (place_in old place) (slot_for number place) → AreInStep entries new
step-placed entries old new place number low step for between slots = record {
  between = between;
  sorts = subst (IsOrder entries) (sym (numbers-placed old new place number slots))
      (order-placed _ _ _ _ low step.sorts for.gap);
  fronted = grind (arith, all-inserted);
}

-- the order with the number of one more entry at its place
pub step-new : (k : Key) (entries : List Key) (old new : KeyOrder) (place : Place) → AreInStep entries old
    → IsPlaceFor k.kind k.text entries old place → length new.heads.items ≡ length new.pages.items - 1
    → slots_in new ≡ insert (slots_in old) (place_in old place) (slot_for (length entries) place)
    → AreInStep (entries ++ k ∷ []) new
step-new k entries old new place step for between slots = record {
  between = between;
  sorts = subst (IsOrder (entries ++ k ∷ [])) (sym (numbers-placed old new place (length entries) slots))
      (order-new k _ _ _ step.sorts for.gap);
  fronted = rw slots (fronted-new k _ _ _ _ for.front step.fronted);
}

pub part-placed : (old new : KeyOrder) (place : Place) (number : ℕ)
    → slots_in new ≡ insert (slots_in old) (place_in old place) (slot_for number place)
    → IsPartOf (numbers_in old) (numbers_in new)
part-placed old new place number slots i a =
    subst (IsAmong i) (sym (numbers-placed old new place number slots)) (among-kept _ (place_in old place) number i a)

pub among-placed : (old new : KeyOrder) (place : Place) (number : ℕ)
    → slots_in new ≡ insert (slots_in old) (place_in old place) (slot_for number place)
    → IsAmong number (numbers_in new)
among-placed old new place number slots =
    subst (IsAmong number) (sym (numbers-placed old new place number slots))
    (among-new (numbers_in old) (place_in old place) number)

-- the same slots are the same order
pub step-same : (entries : List Key) (old new : KeyOrder) → AreInStep entries old
    → length new.heads.items ≡ length new.pages.items - 1 → slots_in new ≡ slots_in old → AreInStep entries new
step-same entries _ _ step between slots = grind arith

pub part-same : (old new : KeyOrder) → slots_in new ≡ slots_in old → IsPartOf (numbers_in old) (numbers_in new)
part-same _ _ slots i a = rw slots a

-- whether or not there was memory
pub step-inserted : {T E : Type 0} (r : Result T E) (entries : List Key) (old new : KeyOrder) (place : Place)
    (number : ℕ) → number < length entries → AreInStep entries old
    → IsPlaceFor (key_at entries number).kind (key_at entries number).text entries old place
    → length new.heads.items ≡ length new.pages.items - 1
    → OnOk r (slots_in new ≡ insert (slots_in old) (place_in old place) (slot_for number place))
    → OnErr r (slots_in new ≡ slots_in old) → AreInStep entries new
step-inserted (Ok _) entries old new place number low step for between ok _ =
    step-placed _ _ _ _ _ low step for between ok
step-inserted (Err _) entries old new _ _ _ step _ between _ err = step-same _ _ _ step between err

pub part-inserted : {T E : Type 0} (r : Result T E) (old new : KeyOrder) (place : Place) (number : ℕ)
    → OnOk r (slots_in new ≡ insert (slots_in old) (place_in old place) (slot_for number place))
    → OnErr r (slots_in new ≡ slots_in old) → IsPartOf (numbers_in old) (numbers_in new)
part-inserted (Ok _) old new place number ok _ = part-placed old new place number ok
part-inserted (Err _) old new _ _ _ err = part-same old new err

pub has-inserted : {T E : Type 0} (r : Result T E) (old new : KeyOrder) (place : Place) (number : ℕ)
    → OnOk r (slots_in new ≡ insert (slots_in old) (place_in old place) (slot_for number place))
    → OnOk r (IsAmong number (numbers_in new))
has-inserted (Ok _) old new place number ok = among-placed old new place number ok
has-inserted (Err _) _ _ _ _ ok = ok

-- the keys in order with one more number
pub keys-found : (kind : Kind) (text : List ℕ) (n : ℕ) (entries : List Key) (i : ℕ) → i < length entries
    → lies_to kind text (key_at entries i) ≡ Equal → AreDistinct entries
    → in_key_order (set entries i (with_one (key_at entries i) n)) ≡ with_pair kind text n (in_key_order entries)
keys-found kind text n entries i low equal distinct = grind (arith, in_key_order-found, lies_to, key_at, keys-same)

pub kept-order-if : {T E : Type 0} (r : Result T E) (entries : List Key) (table : KeyTable) (old new : KeyOrder)
    (number : ℕ) → IsPartOf (numbers_in old) (numbers_in new) → OnOk r (IsAmong number (numbers_in new))
    → IsFull table (hash_at entries number) (length entries)
    → OnOk r (AreReachable entries table old number → AreReachable entries table new (number + 1))
kept-order-if (Ok _) entries table old new number part among full =
    λ kept. kept-order _ _ old new _ part among full kept
kept-order-if (Err _) _ _ _ _ _ _ among _ = among

-- the same entries in another order
pub map-ordered : (entries slice : List Key) (table : KeyTable) (old new : KeyOrder) (sorted : ℕ) → slice ≡ entries
    → IsKeyMap entries table old sorted → AreInStep slice new → IsPartOf (numbers_in old) (numbers_in new)
    → IsKeyMap entries table new sorted
map-ordered entries _ table old new _ same is step part = record {
  distinct = is.distinct;
  step = rw (← same) step;
  kept = kept-part _ _ old new _ part is.kept;
  within = is.within;
  first = λ i h. part i (is.first i h);
}

-- the same entries in a whole order
pub map-sorted : (entries slice : List Key) (table : KeyTable) (old new : KeyOrder) (sorted count : ℕ)
    → slice ≡ entries → count ≡ length entries → IsKeyMap entries table old sorted → AreInStep slice new
    → IsPartOf (numbers_in old) (numbers_in new) → ((i : ℕ) → i < length slice → IsAmong i (numbers_in new))
    → IsKeyMap entries table new count
map-sorted entries _ table old new _ _ same all is step part whole = record {
  distinct = is.distinct;
  step = rw (← same) step;
  kept = kept-part _ _ old new _ part is.kept;
  within = omega arith;
  first = λ i h. whole i (omega (arith, ap length same));
}

-- the same entries with another table
pub map-tabled : (entries slice : List Key) (t u : KeyTable) (old new : KeyOrder) (sorted : ℕ) → slice ≡ entries
    → IsKeyMap entries t old sorted → AreInStep slice new → IsPartOf (numbers_in old) (numbers_in new)
    → AreReachable slice u new (length slice) → IsKeyMap entries u new sorted
map-tabled _ _ t u _ new _ same is step part kept = record {
  distinct = is.distinct;
  step = rw (← same) step;
  kept = rw (← same) kept;
  within = is.within;
  first = λ i h. part i (is.first i h);
}

-- the map after a number was added to an entry, or not
pub map-number : {T E : Type 0} (r : Result T E) (entries after : List Key) (i n : ℕ) (table : KeyTable)
    (order : KeyOrder) (sorted : ℕ) → i < length entries → IsKeyMap entries table order sorted
    → OnOk r (after ≡ set entries i (with_one (key_at entries i) n)) → OnErr r (after ≡ entries)
    → IsKeyMap after table order sorted
map-number (Ok _) entries _ i n table order sorted low is ok _ = rw ok (map-found _ i n _ _ _ low is)
map-number (Err _) _ _ i n table order sorted _ is _ err = rw err is

pub keys-number : {T E : Type 0} (r : Result T E) (kind : Kind) (text : List ℕ) (entries after : List Key) (i n : ℕ)
    → i < length entries → lies_to kind text (key_at entries i) ≡ Equal → AreDistinct entries
    → OnOk r (after ≡ set entries i (with_one (key_at entries i) n))
    → OnOk r (in_key_order after ≡ with_pair kind text n (in_key_order entries))
keys-number (Ok _) kind text entries _ i n low equal distinct ok =
    ap in_key_order ok ∙ keys-found _ _ n _ i low equal distinct
keys-number (Err _) _ _ _ _ i n _ _ _ ok = ok

pub long-number : {T E : Type 0} (r : Result T E) (entries after : List Key) (i n : ℕ)
    → OnOk r (after ≡ set entries i (with_one (key_at entries i) n)) → OnErr r (after ≡ entries)
    → length (in_key_order after) ≡ length (in_key_order entries)
long-number (Ok _) entries after i n ok _ = length-in_key_order _ ∙ ap length ok ∙ length-set _ i _
    ∙ sym (length-in_key_order _)
long-number (Err _) _ _ i n _ err = ap (λ l. length (in_key_order l)) err

-- one more key makes one more
pub long-new : (kind : Kind) (text : List ℕ) (n : ℕ) (entries : List Key) → IsAbsent kind text entries
    → length (with_pair kind text n (in_key_order entries)) ≡ length entries + 1
long-new kind text n entries absent = ap length (sym (in_key_order-new _ _ n _ absent)) ∙ length-in_key_order _
    ∙ length-append _ _

-- ---- the same numbers in a table

window-noted : (t u : KeyTable) (hash s : ℕ) → u.numbers.items ≡ t.numbers.items → u.left_out ≡ t.left_out
    → IsInWindow t hash s → IsInWindow u hash s
window-noted t u hash s numbers left_out inside = grind (arith, length)

filled-noted : (t u : KeyTable) (hash count end : ℕ) → u.numbers.items ≡ t.numbers.items → u.left_out ≡ t.left_out
    → AreFilled t hash count end → AreFilled u hash count end
filled-noted t u hash count _ numbers left_out filled s inside before = grind (arith, window-noted)

kept-noted : (t u : KeyTable) (order : KeyOrder) (hash count i : ℕ) → u.numbers.items ≡ t.numbers.items
    → u.left_out ≡ t.left_out → IsReachable t order hash count i → IsReachable u order hash count i
kept-noted t u _ hash count i numbers left_out kept = grind (arith, window-noted, get_or, filled-noted)

pub map-noted : (entries : List Key) (t u : KeyTable) (order : KeyOrder) (sorted : ℕ)
    → u.numbers.items ≡ t.numbers.items → u.left_out ≡ t.left_out → IsKeyMap entries t order sorted
    → IsKeyMap entries u order sorted
map-noted entries t u order _ numbers left_out is = grind (arith, kept-noted)

-- the map after a key was inserted, or not
pub map-inserted : {T E : Type 0} (r : Result T E) (kind : Kind) (text : List ℕ) (n : ℕ) (entries after : List Key)
    (table : KeyTable) (old new : KeyOrder) (sorted : ℕ) → IsKeyMap entries table old sorted
    → IsAbsent kind text entries → IsFull table (hash_of kind text) (length entries) → AreInStep after new
    → IsPartOf (numbers_in old) (numbers_in new) → OnOk r (after ≡ entries ++ new_key kind text n ∷ [])
    → OnErr r (after ≡ entries) → OnOk r (IsAmong (length entries) (numbers_in new))
    → IsKeyMap after table new sorted
map-inserted (Ok _) kind text n entries _ table old new sorted is absent full step part ok _ among =
    rw ok (map-order _ _ n _ _ _ _ _ is absent full (rw (← ok) step) part among)
map-inserted (Err _) _ _ n entries after table old new sorted is _ _ step part _ err _ =
    rw err (map-ordered _ _ _ _ _ _ err is step part)

pub keys-inserted : {T E : Type 0} (r : Result T E) (kind : Kind) (text : List ℕ) (n : ℕ) (entries after : List Key)
    → IsAbsent kind text entries → OnOk r (after ≡ entries ++ new_key kind text n ∷ [])
    → OnOk r (in_key_order after ≡ with_pair kind text n (in_key_order entries))
keys-inserted (Ok _) kind text n entries _ absent ok = ap in_key_order ok ∙ in_key_order-new _ _ n _ absent
keys-inserted (Err _) _ _ n _ _ _ ok = ok
