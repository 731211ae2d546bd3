-- How the events go on from one line to the next.
use Rattle.mbox_cutter.proofs.Words.{◌≡◌, ℕ, ◌+◌, ◌-◌, ◌≤◌, true, false, ◌||◌, ◌⊎◌, List, [], ◌∷◌, length, arith, add-zero, is_empty, is_separator, Start, Line, End, events_between, events_inside}
use Rattle.std.proofs.lemmas.Slice.Eq.{bytes_eq-Decides}

-- a line of k bytes, and the lines after it
module _ (l : List ℕ) (ls : List (List ℕ)) (k : ℕ) (len : length l ≡ k) where
  -- a start
  pub between-start : (all at : ℕ) → is_separator l ≡ true → is_empty l ≡ false → events_between all at (l ∷ ls)
      ≡ Start at l ∷ events_inside all (at + k) at 0 ls
  between-start all at s e = grind arith

  pub inside-line : (all at start size : ℕ) → is_empty l ≡ false → events_inside all at start size (l ∷ ls)
      ≡ Line l ∷ events_inside all (at + k) start (size + k) ls
  inside-line all at start size e = grind arith

  -- the archive ends with an empty line
  pub inside-closing_last : (all at start size : ℕ) → is_empty l ≡ true → ls ≡ []
      → events_inside all at start size (l ∷ ls) ≡ End ((at + k) - start) size ∷ events_between all (at + k) ls
  inside-closing_last all at start size e none = rw (← len, none) (rw e (simp add-zero))

  module _ (m : List ℕ) (after : List (List ℕ)) (next : ls ≡ m ∷ after) where
    -- an empty line before a start
    pub inside-closing : (all at start size : ℕ) → is_empty l ≡ true → is_separator m ≡ true → is_empty m ≡ false →
        events_inside all at start size (l ∷ ls) ≡ End ((at + k) - start) size ∷ events_between all (at + k) ls
    inside-closing all at start size e s f = grind arith

    -- another empty line
    pub inside-empty : (all at start size : ℕ) → is_empty l ≡ true → is_separator m ≡ false →
        events_inside all at start size (l ∷ ls) ≡ Line l ∷ events_inside all (at + k) start (size + k) ls
    inside-empty all at start size e s = grind arith

pub separator-full : (l : List ℕ) → is_separator l ≡ true → is_empty l ≡ false
unfolding is_separator is_empty
separator-full l s = grind arith

pub empty-short : (l : List ℕ) → is_empty l ≡ true → length l ≤ 2
unfolding is_empty
empty-short l e = grind (arith, bytes_eq-Decides)
