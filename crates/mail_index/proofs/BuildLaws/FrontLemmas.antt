-- Keys whose fronts differ compare as their fronts do, because a front is the number of a key's first eight bytes.
use Rattle.mail_index.proofs.Words.{◌≡◌, ◌∙◌, ℕ, zero, suc, ◌+◌, ◌*◌, ◌^◌, ◌<◌, ◌≤◌, Bool, nat_eq, nat_lt, List, [], ◌∷◌, ◌++◌, length, take, drop, min, replicate, set, get_or, refl, sym, ap, arith, length-append, nat_cmp, lit<, Fits, w8, Ordering, Less, Equal, Greater, MatchOrdering, ordering_then, ordering_reverse, slice_cmp, w64, from_be_bytes, AllByRecursion, insert, nat_tests, nat_list_cmp_total, ranked, length-take-le, get_or_append_left, get_or-append_right, get_or-take, get_or-drop, get_or_past, get_or-set_same, get_or-set_other, length-set, get_or-append_seam, mul-le-mul_right, pow-succ', Kind, Key, kind_number, lies_to, key_at, no_key}
use Rattle.mail_index.specs.declared.build.key_front.Fronted.{Fronted}
use Rattle.mail_index.specs.Inside.KeyFronts.{number_of_first, IsFrontOfKey, IsFronted}
use Rattle.mail_index.specs.Inside.KeyMaps.{with_one}
use Rattle.mail_index.proofs.BuildLaws.KeyMapLemmas.{all-inserted}

-- ---- the order of lists by their first items

abbrev AreBytes : List ℕ → Type 0
AreBytes items = AllByRecursion (λ b. b < 256) items

-- the number of the first n bytes is below 256 ^ n
number-below : (n : ℕ) (items : List ℕ) → AreBytes items → number_of_first n items < 256 ^ n
unfolding number_of_first
number-below zero _ _ = lit< tt
number-below (suc n) [] all = omega (arith, number-below n [] tt, pow-succ')
number-below (suc n) (item ∷ items) all = grind (arith, pow-succ', mul-le-mul_right, number-below n items all.1)

-- the list with the lower number comes first
lower-first : (n : ℕ) (xs ys : List ℕ) → AreBytes xs → AreBytes ys → number_of_first n xs < number_of_first n ys
    → slice_cmp nat_cmp xs ys ≡ Less
unfolding number_of_first
lower-first zero _ _ all others h = absurd (omega arith)
lower-first (suc n) _ [] all others h = absurd (omega arith)
lower-first (suc n) [] (y ∷ ys) _ _ h = refl
lower-first (suc n) (x ∷ xs) (y ∷ ys) all others h =
    go _ (ranked x y (nat_cmp x y) refl) (lower-first n xs ys all.1 others.1)
  where
    go : (o : Ordering) → MatchOrdering o (x < y) (x ≡ y) (y < x)
        → (number_of_first n xs < number_of_first n ys → slice_cmp nat_cmp xs ys ≡ Less)
        → ordering_then o (slice_cmp nat_cmp xs ys) ≡ Less
    go Less r _ = refl
    go Equal r rest = grind arith
    go Greater r rest = absurd (omega (
      arith,
      h,
      number-below n _ others.1,
      mul-le-mul_right (256 ^ n) (let le : suc y ≤ x = omega arith in le),
    ))

-- ---- the number of eight bytes

-- the number with these n digits to the base 256
weighed : ℕ → (ℕ → ℕ) → ℕ
weighed zero f = 0
weighed (suc n) f = f 0 * 256 ^ n + weighed n (λ i. f (suc i))

number-weighed : (n : ℕ) (items : List ℕ) → number_of_first n items ≡ weighed n (λ i. get_or items i 0)
unfolding number_of_first weighed
number-weighed zero _ = refl
number-weighed (suc n) [] = nothing (suc n)
  where
    nothing : (m : ℕ) → 0 ≡ weighed m (λ _. 0)
    nothing zero = refl
    nothing (suc m) = omega (arith, nothing m)
number-weighed (suc n) (item ∷ items) = ap (λ (k : ℕ). item * 256 ^ n + k) (number-weighed n items)

weighed-same : (n : ℕ) (f g : ℕ → ℕ) → ((i : ℕ) → i < n → f i ≡ g i) → weighed n f ≡ weighed n g
unfolding weighed
weighed-same zero f g h = refl
weighed-same (suc n) f g h = grind (
  arith,
  weighed-same n (λ i. f (suc i)) (λ i. g (suc i)) (λ i lt. h (suc i) (omega (arith, lt))),
)

-- bytes that are the same at each place, or 0 after the end, have the same number
eight-bytes : (bytes items : List ℕ) → ((i : ℕ) → i < 8 → get_or bytes i 0 ≡ get_or items i 0) → from_be_bytes w64 bytes
    ≡ number_of_first 8 items
unfolding weighed
eight-bytes bytes items same = grind (arith, weighed, get_or, number_of_first, weighed-same, number-weighed)

abbrev zeros : ℕ → List ℕ
zeros n = replicate n 0

zeros-alone : (n i : ℕ) → get_or (zeros n) i 0 ≡ 0
zeros-alone zero i = refl
zeros-alone (suc n) zero = refl
zeros-alone (suc n) (suc i) = zeros-alone n i

-- the eight bytes of a front: the kind's number, as much of the text as fits, and zeros after it
pub padded-front : (kind : ℕ) (text part : List ℕ) (n m : ℕ) → n ≡ min (length text) 7 → part ≡ take n text
    → from_be_bytes w64 (kind ∷ part ++ drop m (zeros 7)) ≡ number_of_first 8 (kind ∷ text)
padded-front kind text part n m e p = eight-bytes (kind ∷ part ++ drop m _) _ same
  where
    long : length (take n text) ≡ n
    long = length-take-le n _ (omega arith)

    within : (i : ℕ) → i < 7 → (b : Bool) → nat_lt i n ≡ b → get_or (take n text ++ drop m (zeros 7)) i 0
        ≡ get_or text i 0
    within i h b h2 = grind (
      arith,
      nat_tests,
      get_or_append_left,
      long,
      get_or-take,
      get_or-append_right,
      get_or-drop,
      get_or_past,
    )

    same : (i : ℕ) → i < 8 → get_or (kind ∷ part ++ drop m (zeros 7)) i 0 ≡ get_or (kind ∷ text) i 0
    same i h = grind (arith, within)

-- ---- the order of keys

kind-byte : (kind : Kind) → kind_number kind < 256
kind-byte _ = grind (arith, lit<)

pub all-bytes : (text : List ℕ) → ((i : ℕ) → Fits w8 (get_or text i 0)) → AreBytes text
all-bytes [] _ = tt
all-bytes (b ∷ text) fits = ((fits 0).fits, all-bytes text (λ i. fits (suc i)))

-- keys whose fronts differ compare as the fronts do
pub lies-as-fronts : (kind : Kind) (text : List ℕ) (front : ℕ) (k : Key) (own : ℕ) → IsFrontOfKey kind text front
    → IsFrontOfKey k.kind k.text own
    → (o : Ordering) → o ≡ nat_cmp own front → (o ≡ Equal → ⊥) → o ≡ lies_to kind text k
lies-as-fronts kind text front k own wanted is o e other = go o (ranked _ front o e) other
  where
    go : (o : Ordering) → MatchOrdering o (own < front) (own ≡ front) (front < own) → (o ≡ Equal → ⊥) → o
        ≡ lies_to kind text k
    go Less r other = sym (lower-first 8 (kind_number k.kind ∷ k.text) (kind_number kind ∷ text) (kind-byte _, is.bytes)
        (kind-byte _, wanted.bytes) (omega arith))
    go Equal r other = absurd (other refl)
    go Greater r other = sym (nat_list_cmp_total.antisymm (kind_number k.kind ∷ k.text) (kind_number kind ∷ text)
        ∙ ap ordering_reverse (lower-first 8 (kind_number kind ∷ text) (kind_number k.kind ∷ k.text)
        (kind-byte _, wanted.bytes) (kind-byte _, is.bytes) (omega arith)))

-- ---- slots

-- two entries have the same kind and text
record IsSameKey (old new : Key) : Type 0 where
  kind : old.kind ≡ new.kind
  text : old.text ≡ new.text

-- if the entries keep their kinds and texts, the slots keep their fronts
fronted-kept : (old new : List Key) → length old ≤ length new
    → ((i : ℕ) → i < length old → IsSameKey (key_at old i) (key_at new i)) → (slots : List Fronted)
    → AllByRecursion (IsFronted old) slots → AllByRecursion (IsFronted new) slots
fronted-kept _ _ _ _ [] _ = tt
fronted-kept old new more same (slot ∷ slots) all = grind (arith, key_at, fronted-kept old new more same slots all.1)

-- one more key, without a slot
pub fronted-more : (k : Key) (entries : List Key) (slots : List Fronted) → AllByRecursion (IsFronted entries) slots
    → AllByRecursion (IsFronted (entries ++ k ∷ [])) slots
fronted-more k entries slots all = fronted-kept _ (entries ++ k ∷ []) (omega (arith, length-append entries (k ∷ [])))
    (λ i h. let same = get_or_append_left entries (k ∷ []) no_key i h in grind arith) _ all

-- one more key, with its slot
pub fronted-new : (k : Key) (entries : List Key) (slots : List Fronted) (place front : ℕ)
    → IsFrontOfKey k.kind k.text front → AllByRecursion (IsFronted entries) slots
    → AllByRecursion (IsFronted (entries ++ k ∷ []))
    (insert slots place (record { number = length entries; front = front }))
fronted-new k _ _ _ _ new all =
    grind (arith, length-append, key_at, get_or-append_seam, no_key, all-inserted, fronted-kept, get_or_append_left)

-- one more number of a key
pub fronted-found : (entries : List Key) (i n : ℕ) (slots : List Fronted) → i < length entries
    → AllByRecursion (IsFronted entries) slots
    → AllByRecursion (IsFronted (set entries i (with_one (key_at entries i) n))) slots
fronted-found entries i n slots lt all =
    fronted-kept _ _ (omega (arith, length-set entries i (with_one (key_at entries i) n)))
    (λ j h. same j (nat_eq j i) refl) _ all
  where
    same : (j : ℕ) → (t : Bool) → nat_eq j i ≡ t
        → IsSameKey (key_at entries j) (key_at (set entries i (with_one (key_at entries i) n)) j)
    same j t h = grind (arith, nat_tests, key_at, set, get_or-set_same, no_key, get_or-set_other)
