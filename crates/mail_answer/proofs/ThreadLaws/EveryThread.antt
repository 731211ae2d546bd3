-- There are threads of any messages, however keys link them: the messages that the keys join, key by key.
use Rattle.mail_answer.proofs.Words.{◌≡◌, ◌∙◌, ◌+◌, ◌<◌, ℕ, Bool, true, nat_eq, ◌&&◌, ◌||◌, List, [], ◌∷◌, ◌++◌, inl, inr, refl, sym, subst, arith, eq-eqb, list_any, filter, range_with_len, eqb-true, or_cases, or_left, or_right, and_parts, and_from, Key, is_number_among, IsChain, IsLedTo, IsLedToBySome, AreThreadsOf}
use Rattle.mail_answer.proofs.ThreadLaws.ChosenThreads.{passed_rise, from_passed, to_passed}

-- ---- an element of a list

some_of : (p : ℕ → Bool) (xs : List ℕ) → list_any p xs ≡ true → (x : ℕ) × (is_number_among x xs ≡ true) × (p x ≡ true)
some_of p [] any = absurd (cc any)
some_of p (x ∷ xs) any = grind (arith, or_left, or_right, some_of p xs)

any_of : (p : ℕ → Bool) (x : ℕ) (xs : List ℕ) → is_number_among x xs ≡ true → p x ≡ true → list_any p xs ≡ true
any_of p x [] among passes = absurd (cc among)
any_of p x (y ∷ ys) among passes = grind (arith, or_left, or_right, any_of p x ys)

any_more : (p q : ℕ → Bool) → ((x : ℕ) → p x ≡ true → q x ≡ true) → (xs : List ℕ) → list_any p xs ≡ true → list_any q xs
    ≡ true
any_more p q each xs any = let some = some_of p _ any in grind (arith, any_of)

-- ---- messages that keys join, found key by key

-- a key has both numbers
abbrev pub share_key : List Key → ℕ → ℕ → Bool
share_key ks m n = list_any (λ k. is_number_among m k.numbers && is_number_among n k.numbers) ks

-- The numbers are the same, or the keys join them: the first key joins all numbers that the others join to its own.
abbrev pub are_joined : List Key → ℕ → ℕ → Bool
are_joined [] m n = nat_eq m n
are_joined (k ∷ ks) m n = are_joined ks m n ||
    (list_any (are_joined ks m) k.numbers && list_any (are_joined ks n) k.numbers)

joined_itself : (ks : List Key) (n : ℕ) → are_joined ks n n ≡ true
joined_itself [] n = eq-eqb n n refl
joined_itself (k ∷ ks) n = or_left _
    _ (joined_itself ks n)

joined_turned : (ks : List Key) (m n : ℕ) → are_joined ks m n ≡ true → are_joined ks n m ≡ true
joined_turned [] m n h = eq-eqb n m (sym (eqb-true m n h))
joined_turned (k ∷ ks) m n h = grind (arith, or_left, or_right, and_from, joined_turned ks m n)

joined_through : (ks : List Key) (l m n : ℕ) → are_joined ks l m ≡ true → are_joined ks m n ≡ true → are_joined ks l n
    ≡ true
joined_through [] l m n one two = eq-eqb l n (eqb-true l m one ∙ eqb-true m n two)
joined_through (k ∷ ks) l m n one two = grind (
  arith,
  or_left,
  any_more,
  joined_turned,
  or_right,
  and_from,
  joined_through ks l m n,
  joined_through ks l m,
  joined_through ks n m,
)

-- ---- keys join two numbers exactly if a path leads from one to the other

chain_joined : (linked : ℕ → ℕ → Bool) (l m n : ℕ) (front back : List ℕ) → IsChain linked l front m
    → IsChain linked m back n → IsChain linked l (front ++ back) n
chain_joined linked l m n [] back here rest = subst (λ k. IsChain linked k back n) (sym here) rest
chain_joined linked l m n (k ∷ front) back given rest = (given.0, chain_joined _ k m n front _ given.1 rest)

led_through : (linked : ℕ → ℕ → Bool) (l m n : ℕ) → IsLedTo linked l m → IsLedTo linked m n → IsLedTo linked l n
led_through = grind (arith, chain_joined)

led_by_joined : (linked : ℕ → ℕ → Bool) (ks : List Key) → ((m n : ℕ) → share_key ks m n ≡ true → linked m n ≡ true)
    → (m n : ℕ) → are_joined ks m n ≡ true → IsLedTo linked m n
led_by_joined linked [] links m n h = ([], eqb-true m n h)
led_by_joined linked (k ∷ ks) links m n h =
    elim (or_cases (are_joined ks m n)
    (list_any (are_joined ks m) k.numbers && list_any (are_joined ks n) k.numbers) h) [
      | inl others ↦ led_by_joined _ ks rest m n others
      | inr first ↦
          let both = and_parts (list_any (are_joined ks m) k.numbers) (list_any (are_joined ks n) k.numbers) first in
          let x = some_of (are_joined ks m) _ both.0 in
          let y = some_of _ _ both.1 in
          let here =
          links x.0 y.0 (or_left _ _
          (and_from _ _ x.1 y.1)) in
          led_through _ m _ n (led_by_joined _ ks rest m _ x.2)
          (led_through _ _ _ n (y.0 ∷ [], (here, refl))
          (led_by_joined _ ks rest _ n (joined_turned ks n _ y.2)))
    ]
  where
    rest : (a b : ℕ) → share_key ks a b ≡ true → linked a b ≡ true
    rest a b shared = links a b (or_right _
        _ shared)

joined_by_link : (ks : List Key) (m n : ℕ) → share_key ks m n ≡ true → are_joined ks m n ≡ true
joined_by_link [] m n h = absurd (cc h)
joined_by_link (k ∷ ks) m n h = grind (arith, or_right, and_from, any_of, joined_itself, or_left, joined_by_link ks m n)

joined_by_chain : (ks : List Key) (m n : ℕ) (path : List ℕ) → IsChain (share_key ks) m path n → are_joined ks m n ≡ true
joined_by_chain ks m n [] here = subst (λ k. are_joined ks m k ≡ true) here (joined_itself ks m)
joined_by_chain ks m n (l ∷ path) given =
    joined_through ks m l n (joined_by_link ks m l given.0) (joined_by_chain ks l n path given.1)

-- ---- the threads

pub threads_by_keys : (ks : List Key) (count : ℕ) (numbers : List ℕ)
    → AreThreadsOf count (share_key ks) numbers
    (filter (λ n. list_any (λ m. are_joined ks m n) numbers) (range_with_len 0 count))
threads_by_keys ks count numbers = record {
  rises = passed_rise test 0 count;
  each = λ n. (
    λ (among : is_number_among n (filter test (range_with_len 0 count)) ≡ true). forth n
        (from_passed test 0 count n among),
    λ (given : (n < count) × IsLedToBySome (share_key ks) numbers n). to_passed test 0 count n (omega arith)
        (omega (arith, given.0))
        (any_of (λ m. are_joined ks m n) given.1.0 numbers given.1.1
        (joined_by_chain ks given.1.0 n given.1.2.0 given.1.2.1)),
  );
}
  where
    test : ℕ → Bool
    test n = list_any (λ m. are_joined ks m n) numbers

    forth : (n : ℕ) → (n < 0 + count) × (test n ≡ true) → (n < count) × IsLedToBySome (share_key ks) numbers n
    forth n passed =
        let some = some_of (λ m. are_joined ks m n) numbers passed.1 in (
          omega (arith, passed.0),
          (
            some.0,
            some.1,
            led_by_joined (share_key ks) ks (λ a b shared. shared) some.0 n some.2,
          ),
        )
