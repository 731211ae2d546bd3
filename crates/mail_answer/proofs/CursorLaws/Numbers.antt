-- A cursor returns the numbers of its walk in order, because it goes on past each number that it returned.
use Rattle.mail_answer.proofs.Words.{◌≡◌, ◌∙◌, ◌+◌, ◌<◌, ◌≤◌, ℕ, zero, suc, Bool, true, false, ◌&&◌, max, List, [], ◌∷◌, ◌++◌, Option, Some, None, refl, sym, ap, arith, inl, inr, nat_le, filter, range_with_len, AllByRecursion, cases_lt, lt-leb, both_ways, truth_at, Drops, IsFirst, numbers_to_come, AreWithin, TakesFirst, TakesFrom}
use Rattle.std.proofs.lemmas.List.{append-nil}
use Rattle.std.proofs.lemmas.Bool.{le-leb}
use Rattle.mail_answer.proofs.CursorLaws.Turns.{first_from}

pub filter_alike : (f g : ℕ → Bool) (a n : ℕ) → ((k : ℕ) → a ≤ k → k < a + n → f k ≡ g k)
    → filter f (range_with_len a n) ≡ filter g (range_with_len a n)
filter_alike f g a zero same = refl
filter_alike f g a (suc n) same = grind (arith, filter_alike f g (a + 1) n)

none_pass : (f : ℕ → Bool) (a n : ℕ) → ((k : ℕ) → a ≤ k → k < a + n → f k ≡ false) → filter f (range_with_len a n) ≡ []
none_pass f a zero none = refl
none_pass f a (suc n) none = grind (arith, none_pass f (a + 1) n)

skips : (f : ℕ → Bool) (a n : ℕ) → f a ≡ false → filter f (range_with_len a (suc n))
    ≡ filter f (range_with_len (a + 1) n)
skips = grind arith

takes : (f : ℕ → Bool) (a n : ℕ) → f a ≡ true → filter f (range_with_len a (suc n))
    ≡ a ∷ filter f (range_with_len (a + 1) n)
takes = grind arith

-- whether a number passes and isn't below `low`
abbrev from : ℕ → (ℕ → Bool) → ℕ → Bool
from low f n = nat_le low n && f n

from-before : (low : ℕ) (f : ℕ → Bool) (n : ℕ) → n < low → from low f n ≡ false
from-before low f n lt = ap (λ b. b && f n) (lt-leb low n lt)

from-after : (low : ℕ) (f : ℕ → Bool) (n : ℕ) → low ≤ n → from low f n ≡ f n
from-after low f n le = ap (λ b. b && f n) (le-leb low n le)

first_of_range : (f : ℕ → Bool) (k a n : ℕ) → a ≤ k → k < a + n → f k ≡ true → ((m : ℕ) → m < k → f m ≡ false)
    → filter f (range_with_len a n) ≡ k ∷ filter (from (suc k) f) (range_with_len a n)
first_of_range f k a zero le lt holds none = absurd (omega (arith, le, lt))
first_of_range f k a (suc n) le lt holds none =
    grind (arith, skips, from-before, takes, filter_alike, from-after, first_of_range f k (a + 1) n)

-- dropping the numbers below n leaves exactly the numbers from n on
same_from : (n count : ℕ) (old new : List Bool) → Drops n old new → numbers_to_come n count old
    ≡ filter (truth_at new) (range_with_len 0 count)
same_from = grind (arith, filter_alike, cases_lt, from-before, from-after)

pub within_still : (n count : ℕ) (old new : List Bool) → Drops n old new → AreWithin count old → AreWithin count new
within_still = grind (arith, cases_lt, both_ways)

-- ---- the numbers below n come first

pub record Split (n low : ℕ) (f : ℕ → Bool) (ns : List ℕ) : Type 0 where
  pub dropped : List ℕ
  pub below : AllByRecursion (λ m. m < n) dropped
  pub split : filter (from low f) ns ≡ dropped ++ filter (from (max n low) f) ns

split_range : (n low : ℕ) (f : ℕ → Bool) (a k : ℕ) → Split n low f (range_with_len a k)
split_range n low f a zero = record { dropped = []; below = tt; split = refl }
split_range n low f a (suc k) = elim (cases_lt a n) [
  | inl before ↦
      let rest = split_range n low f (a + 1) k in
      let gone =
      skips _ a k (grind (arith, from-before)) in
      split_one n _ f a k before rest gone _ refl
  | inr after ↦ record {
    dropped = [];
    below = tt;
    split = grind (arith, filter_alike, from-before, from-after);
  }
]
  where
    split_one : (n low : ℕ) (f : ℕ → Bool) (a k : ℕ) → a < n → (rest : Split n low f (range_with_len (a + 1) k))
        → filter (from (max n low) f) (range_with_len a (suc k))
        ≡ filter (from (max n low) f) (range_with_len (a + 1) k)
        → (b : Bool) → from low f a ≡ b → Split n low f (range_with_len a (suc k))
    split_one n low f a k before rest gone true holds = record {
      dropped = a ∷ rest.dropped;
      below = (before, rest.below);
      split = grind (arith, takes);
    }
    split_one n low f a k before rest gone false fails = record {
      dropped = rest.dropped;
      below = rest.below;
      split = grind (arith, skips);
    }

-- no number is below 0, so the least number from 0 on is the first
none_below : (ns : List ℕ) → AllByRecursion (λ m. m < 0) ns → ns ≡ []
none_below [] all = refl
none_below (n ∷ ns) all = absurd (omega (arith, all.0))

pub takes_first : (old new : List ℕ) (number : Option ℕ) → TakesFrom 0 old new number → TakesFirst old new number
takes_first old new None h = (none_below _ h.0, h.1)
takes_first old new (Some m) h = h.1.2 ∙ ap (λ ns. ns ++ m ∷ new) (none_below _ h.1.1)

-- a walk from the greater of n and low gives the least number from n on
pub takes_none : (n low start count : ℕ) (old new : List Bool) → start ≡ max n low → Drops start old new
    → IsFirst new None → TakesFrom n (numbers_to_come low count old) (numbers_to_come low count new) None
takes_none n low start count old new is drops none =
    let s = split_range n _ _ 0 _ in
    let gone = ap (λ m. numbers_to_come m count old) (sym is)
    ∙ same_from _ _ _ _ drops ∙ none_pass _ 0 _ (λ m a b. none m) in
    let all = s.split ∙ ap (λ ns. s.dropped ++ ns) gone
    ∙ append-nil s.dropped in grind (arith, none_pass, from-before, from-after)

pub takes_one : (n low start count k : ℕ) (old new : List Bool) → start ≡ max n low → Drops start old new
    → IsFirst new (Some k) → k < count
    → TakesFrom n (numbers_to_come low count old) (numbers_to_come (k + 1) count new) (Some k)
takes_one n low start count k old new is drops first lt =
    let s = split_range n _ _ 0 _ in
    let one =
    ap (λ m. numbers_to_come m count old) (sym is) ∙ same_from _ _ _ _ drops
    ∙ first_of_range _ k 0 _ (omega arith) (omega (arith, lt)) first.0 first.1
    ∙ ap (λ m. k ∷ numbers_to_come m count new) (omega arith) in (
      omega (arith, is, first_from _ _ _ k drops first),
      (s.dropped, s.below, s.split ∙ ap (λ ns. s.dropped ++ ns) one),
    )
