-- The messages whose tree has a chosen message are exactly those of the threads, because the trees are the threads.
use Rattle.mail_answer.proofs.Words.{◌≡◌, ◌∙◌, ◌+◌, ◌<◌, ◌≤◌, ℕ, zero, suc, Bool, true, false, cond, nat_eq, ◌⊎◌, List, [], ◌∷◌, length, get_or, inl, inr, refl, sym, ap, subst, arith, add-one, Result, IfOk, AllByRecursion, filter, list_any, range_with_len, get_or-map-range_with_len, or_cases, or_left, or_right, eqb_tells, LinkId, Table, Key, RisesFrom, keys_of, is_number_among, truth_at, each_number, IsPathOfLinks, IsInThreadOfSome, AreThreads, AreThreadRoots}
use Rattle.mail_answer.proofs.ThreadLaws.ThreadLemmas.{itself}

-- ---- membership

below : (P : ℕ → Type 0) (ns : List ℕ) (n : ℕ) → AllByRecursion P ns → is_number_among n ns ≡ true → P n
below P [] n all among = absurd (cc among)
below P (m ∷ ns) n all among = grind (arith, below P ns n all.1)

-- one of the numbers has the value
some_from_any : (value : ℕ → ℕ) (r : ℕ) (ns : List ℕ) → list_any (λ n. nat_eq r (value n)) ns ≡ true → (m : ℕ)
    × (is_number_among m ns ≡ true) × (r ≡ value m)
some_from_any value r [] any = absurd (cc any)
some_from_any value r (n ∷ ns) any =
    elim (or_cases (nat_eq r (value n)) (list_any (λ m. nat_eq r (value m)) ns) any) [
      | inl this ↦ grind (arith, or_left)
      | inr after ↦
          grind (arith, or_right, some_from_any _ r ns after)
    ]

any_from_some : (value : ℕ → ℕ) (r m : ℕ) (ns : List ℕ) → is_number_among m ns ≡ true → r ≡ value m
    → list_any (λ n. nat_eq r (value n)) ns ≡ true
any_from_some value r m [] among same = absurd (cc among)
any_from_some value r m (n ∷ ns) among same =
    elim (or_cases (nat_eq m n) (is_number_among m ns) among) [
      | inl this ↦ grind (arith, or_left)
      | inr after ↦ or_right _ _
          (any_from_some _ r m ns after same)
    ]

-- ---- the numbers that pass a test

pub lower : (a b : ℕ) (ns : List ℕ) → a ≤ b → RisesFrom b ns → RisesFrom a ns
lower a b [] le rises = tt
lower a b (n ∷ ns) le rises = (omega arith, rises.1)

pub passed_rise : (test : ℕ → Bool) (a count : ℕ) → RisesFrom a (filter test (range_with_len a count))
passed_rise test a zero = tt
passed_rise test a (suc count) = grind (arith, add-one, lower, passed_rise test (a + 1) count)

pub from_passed : (test : ℕ → Bool) (a count n : ℕ) → is_number_among n (filter test (range_with_len a count)) ≡ true
    → (n < a + count) × (test n ≡ true)
from_passed test a zero n among = absurd (cc among)
from_passed test a (suc count) n among = go _ refl (λ after. from_passed _ (a + 1) count n after) among
  where
    go : (passes : Bool) → test a ≡ passes
        → (is_number_among n (filter test (range_with_len (a + 1) count)) ≡ true → (n < a + 1 + count)
        × (test n ≡ true))
        → is_number_among n (cond passes (a ∷ filter test (range_with_len (a + 1) count))
        (filter test (range_with_len (a + 1) count))) ≡ true → (n < a + suc count) × (test n ≡ true)
    go true here rest given =
        elim (or_cases (nat_eq n a) (is_number_among n (filter test (range_with_len (a + 1) count))) given) [
          | inl this ↦ grind arith
          | inr after ↦ grind arith
        ]
    go false here rest given = grind arith

pub to_passed : (test : ℕ → Bool) (a count n : ℕ) → a ≤ n → n < a + count → test n ≡ true
    → is_number_among n (filter test (range_with_len a count)) ≡ true
to_passed test a zero n low high passes = absurd (omega (arith, low, high))
to_passed test a (suc count) n low high passes =
    go _ refl (λ after. to_passed _ (a + 1) count n after (omega (arith, high)) passes)
  where
    go : (first : Bool) → test a ≡ first →
        (a + 1 ≤ n → is_number_among n (filter test (range_with_len (a + 1) count)) ≡ true)
        → is_number_among n (cond first (a ∷ filter test (range_with_len (a + 1) count))
        (filter test (range_with_len (a + 1) count))) ≡ true
    go true here rest =
        elim (eqb_tells n a) [
          | inl this ↦ or_left _ _ this.0
          | inr other ↦ grind (arith, or_right)
        ]
    go false here rest = rest (bigger low)
      where
        bigger : a ≤ n → a + 1 ≤ n
        bigger le = elim (eqb_tells n a) [
          | inl this ↦ grind arith
          | inr other ↦ omega (arith, other.1, le)
        ]

-- ---- the messages whose root is that of one of these are their threads

pub chosen_threads : (t : Table) (numbers roots members : List ℕ) (test : ℕ → Bool) → AreThreadRoots t roots
    → AllByRecursion (λ n. n < length t.messages) numbers
    → ((r : ℕ) → r < length t.messages → test r ≡ list_any (λ n. nat_eq r (get_or roots n 0)) numbers)
    → members ≡ filter (λ n. test (get_or roots n 0)) (range_with_len 0 (length roots)) → AreThreads t numbers members
chosen_threads t numbers roots members test tells within marked are =
    subst (AreThreads t numbers) (sym are) record {
      rises = passed_rise (λ n. test (get_or roots n 0)) 0 _;
      each = λ n. (
        λ among.
            forth n
            (from_passed _ 0 _ n among),
        λ given. to_passed (λ k. test (get_or roots k 0)) 0
            (length roots) n (omega arith) (omega (arith, given.0, tells.long)) (back n given),
      );
    }
  where
    root : ℕ → ℕ
    root n = get_or roots n 0

    root_within : (n : ℕ) → n < length t.messages → root n < length t.messages
    root_within n lt = let low = tells.back n (omega (arith, lt, tells.long)) in omega (arith, lt, low)

    forth : (n : ℕ) → (n < 0 + length roots) × (test (root n) ≡ true) → (n < length t.messages)
        × IsInThreadOfSome t numbers n
    forth n passed =
        let lt : n < length t.messages = omega (arith, passed.0, tells.long) in
        let some =
        some_from_any _ _ _ (sym (marked (root n) (root_within n lt)) ∙ passed.1) in (
          lt,
          (
            some.0,
            some.1,
            (tells.same some.0 n (below _ _ _ within some.1)
                lt).0 (sym some.2),
          ),
        )

    back : (n : ℕ) → (n < length t.messages) × IsInThreadOfSome t numbers n → test (root n) ≡ true
    back n given =
        let m_within =
        below _ _ _ within given.1.1 in
        marked (root n) (root_within n given.0)
        ∙ any_from_some _ _ _ _ given.1.1
        (sym ((tells.same given.1.0 n m_within given.0).1 given.1.2))

-- ---- without links, or without numbers, the threads are the numbers themselves

path_without : (t : Table) (m n : ℕ) (path : List ℕ) → keys_of LinkId t.keys ≡ [] → IsPathOfLinks t m path n → m ≡ n
path_without t m n [] none here = here
path_without t m n (l ∷ path) none given = grind arith

pub threads_without : (t : Table) (numbers : List ℕ) → (keys_of LinkId t.keys ≡ []) ⊎ (numbers ≡ [])
    → RisesFrom 0 numbers → AllByRecursion (λ n. n < length t.messages) numbers → AreThreads t numbers numbers
threads_without = grind (arith, below, itself, path_without)

-- ---- what the calls returned

pub ok_then : {A E : Type 0} (r : Result A E) (P Q : A → Type 0) → IfOk r P → ((v : A) → P v → Q v) → IfOk r Q
ok_then r P Q = grind arith

pub empty_is : (xs : List ℕ) → length xs ≡ 0 → xs ≡ []
empty_is [] long = refl
empty_is (x ∷ xs) long = absurd (omega (arith, long))

pub no_keys : (ks : List Key) → (0 < length ks → ⊥) → ks ≡ []
no_keys [] none = refl
no_keys (k ∷ ks) none = absurd (none (omega arith))

pub chosen_by_marks : (t : Table) (numbers roots members : List ℕ) (marks : List Bool) → AreThreadRoots t roots
    → AllByRecursion (λ n. n < length t.messages) numbers
    → marks ≡ each_number (length t.messages) (λ r. list_any (λ n. nat_eq r (get_or roots n 0)) numbers)
    → members ≡ filter (λ n. truth_at marks (get_or roots n 0)) (range_with_len 0 (length roots))
    → AreThreads t numbers members
chosen_by_marks t numbers roots members marks tells within marked are =
    chosen_threads t _ _ _ _ tells within
    (λ r lt.
    ap (λ xs. truth_at xs r) marked
    ∙ get_or-map-range_with_len _ 0 _ r r
    _ lt (omega arith))
    are

-- ---- lists of numbers to choose from

all_from_members : (P : ℕ → Type 0) (ns : List ℕ) → ((n : ℕ) → is_number_among n ns ≡ true → P n) → AllByRecursion P ns
all_from_members P [] each = tt
all_from_members P (n ∷ ns) each = grind (arith, or_left, or_right, all_from_members P ns)

-- the numbers of messages that pass a test are below their count
pub passed_below : (test : ℕ → Bool) (count : ℕ)
    → AllByRecursion (λ n. n < count) (filter test (range_with_len 0 count))
passed_below = grind (arith, all_from_members, from_passed)

pub threads_below : (t : Table) (numbers members : List ℕ) → AreThreads t numbers members
    → AllByRecursion (λ n. n < length t.messages) members
threads_below t numbers members are = all_from_members _ _
    (λ n among. ((are.each n).0 among).0)
