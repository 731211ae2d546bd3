-- All ranges are in order, by where they begin and then by where they end, and so are any that are picked from them.
use Rattle.std.proofs.Common.{ℕ, zero, suc, ◌<◌, Bool, List, [], ◌∷◌, ◌++◌, length, map, refl, inl, inr, arith}
use Rattle.std.specs.Prelude.{filter}
use Rattle.contract_words.specs.Ranges.{numbers_from, ranges_from, IsBeforeEach, AreInOrder}

-- what is picked from an ordered list is ordered
before-filter : (p : ℕ × ℕ → Bool) (r : ℕ × ℕ) (rs : List (ℕ × ℕ)) → IsBeforeEach r rs → IsBeforeEach r (filter p rs)
before-filter p r [] h = tt
before-filter p r (s ∷ ss) h = grind (arith, before-filter p r ss h.1)

pub order-filter : (p : ℕ × ℕ → Bool) (rs : List (ℕ × ℕ)) → AreInOrder rs → AreInOrder (filter p rs)
order-filter p [] h = tt
order-filter p (r ∷ rs) h = grind (arith, before-filter, order-filter p rs h.1)

before-append : (r : ℕ × ℕ) (xs ys : List (ℕ × ℕ)) → IsBeforeEach r xs → IsBeforeEach r ys → IsBeforeEach r (xs ++ ys)
before-append r [] ys h g = g
before-append r (x ∷ xs) ys h g = (h.0, before-append r xs ys h.1 g)

-- the ranges of one place with later ends
later_ends : (i end first count : ℕ) → end < first
    → IsBeforeEach (i, end) (map (λ n. (i, n)) (numbers_from first count))
later_ends i end first zero h = tt
later_ends i end first (suc count) h = (inr (refl, h), later_ends i end (suc first) count (omega (arith, h)))

-- the ranges of later places
later_place : (i end j first count : ℕ) → i < j → IsBeforeEach (i, end) (map (λ n. (j, n)) (numbers_from first count))
later_place i end j first zero h = tt
later_place i end j first (suc count) h = (inl h, later_place i end j (suc first) count h)

later_places : (i end j : ℕ) (cs : List ℕ) → i < j → IsBeforeEach (i, end) (ranges_from j cs)
later_places i end j [] h = tt
later_places i end j (c ∷ cs) h =
    before-append (i, end) (map (λ n. (j, n)) (numbers_from (suc j) (length (c ∷ cs)))) (ranges_from (suc j) cs)
    (later_place i end j (suc j) (length (c ∷ cs)) h) (later_places i end (suc j) cs (omega (arith, h)))

order-place : (i first count : ℕ) (rest : List (ℕ × ℕ)) → ((end : ℕ) → IsBeforeEach (i, end) rest) → AreInOrder rest
    → AreInOrder (map (λ n. (i, n)) (numbers_from first count) ++ rest)
order-place i first zero rest h g = g
order-place i first (suc count) rest h g = (
  before-append (i, first) (map (λ n. (i, n)) (numbers_from (suc first) count)) rest
      (later_ends i first (suc first) count (omega arith)) (h first),
  order-place i (suc first) count rest h g,
)

pub order-ranges_from : (i : ℕ) (cs : List ℕ) → AreInOrder (ranges_from i cs)
order-ranges_from i [] = tt
order-ranges_from i (c ∷ cs) =
    order-place i (suc i) (length (c ∷ cs)) (ranges_from (suc i) cs)
    (λ end. later_places i end (suc i) cs (omega arith)) (order-ranges_from (suc i) cs)
