-- Cutting lists where a test passes.
use Rattle.mail_dates.proofs.Words.{◌≡◌, ◌<◌, ◌≤◌, ◌+◌, ℕ, Bool, true, false, cond, List, [], ◌∷◌, length, take, drop, Some, None, refl, arith, slice_split, onto_first, position, position_or_len, nat_tests}
use Rattle.std.proofs.lemmas.List.Splits.{slice_split_first}

module _ (p : ℕ → Bool) where
  whole : (xs : List ℕ) → length xs ≤ position_or_len p xs → slice_split p xs ≡ xs ∷ []
  whole [] h = refl
  whole (x ∷ xs) h = grind (arith, whole xs)

  -- a list in which no element passes is its only part
  pub split_none : (xs : List ℕ) → None ≡ position p xs → slice_split p xs ≡ xs ∷ []
  split_none xs e = grind (arith, whole, nat_tests)

  -- what is before the first element that passes, and the parts after it
  pub record IsCut (xs : List ℕ) (at : ℕ) : Type 0 where
    pub within : at < length xs
    pub parts : slice_split p xs ≡ take at xs ∷ slice_split p (drop (at + 1) xs)

  pub split_some : (xs : List ℕ) (at : ℕ) → Some at ≡ position p xs → IsCut xs at
  split_some xs at e = grind (arith, nat_tests, slice_split_first)

  -- there is always a first part
  pub split_front : (xs : List ℕ) → (part : List ℕ) × (parts : List (List ℕ)) × (slice_split p xs ≡ part ∷ parts)
  split_front [] = ([], [], refl)
  split_front (x ∷ xs) = go (p x) (split_front xs)
    where
      go : (t : Bool) → (part : List ℕ) × (parts : List (List ℕ)) × (slice_split p xs ≡ part ∷ parts) → (part : List ℕ)
          × (parts : List (List ℕ)) × (cond t ([] ∷ slice_split p xs) (onto_first x (slice_split p xs)) ≡ part ∷ parts)
      go true r = ([], slice_split p xs, refl)
      go false r = (x ∷ r.0, r.1, rw r.2 refl)

  -- a list that is cut three times has four or more parts
  pub split_four : (xs first ys second zs third ws : List ℕ) → slice_split p xs ≡ first ∷ slice_split p ys
      → slice_split p ys ≡ second ∷ slice_split p zs → slice_split p zs ≡ third ∷ slice_split p ws → (fourth : List ℕ)
      × (rest : List (List ℕ)) × (slice_split p xs ≡ first ∷ second ∷ third ∷ fourth ∷ rest)
  split_four xs first ys second zs third ws e f g = let front = split_front ws
      in grind arith
