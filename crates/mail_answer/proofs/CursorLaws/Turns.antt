-- The walk through all other messages passes each number that the inner walk has, one after another.
use Rattle.mail_answer.proofs.Words.{◌≡◌, ◌≢◌, ◌+◌, ◌<◌, ◌≤◌, ℕ, Bool, true, false, not, List, Option, Some, None, arith, cases_lt, both_ways, lt-leb, truth_at, others, Drops, IsFirst}
use Rattle.mail_answer.proofs.CursorLaws.TruthReads.{each-at, each-past}

-- ---- all other messages

pub others-from : (count low : ℕ) (xs : List Bool) (m : ℕ) → m < count → low ≤ m → truth_at (others count low xs) m
    ≡ not (truth_at xs m)
others-from = grind (arith, each-at)

others-before : (count low : ℕ) (xs : List Bool) (m : ℕ) → m < low → truth_at (others count low xs) m ≡ false
others-before = grind (arith, cases_lt, each-at, each-past, lt-leb)

pub others-past : (count low : ℕ) (xs : List Bool) (m : ℕ) → count ≤ m → truth_at (others count low xs) m ≡ false
others-past count low xs m past = each-past _ _ m past

-- each number from n and low up to this one was in the walk, which is unchanged from this one on
pub record HasPassed (n low : ℕ) (old : List Bool) (number : ℕ) (xs : List Bool) : Type 0 where
  pub from : n ≤ number
  pub above : low ≤ number
  pub passed : (m : ℕ) → n ≤ m → low ≤ m → m < number → truth_at old m ≡ true
  pub rest : (m : ℕ) → number ≤ m → truth_at xs m ≡ truth_at old m

-- a number that isn't dropped is at least n
pub first_from : (n : ℕ) (xs ys : List Bool) (k : ℕ) → Drops n xs ys → IsFirst ys (Some k) → n ≤ k
first_from = grind (arith, cases_lt, both_ways)

pub passed_more : (n low : ℕ) (old : List Bool) (number : ℕ) (xs ys : List Bool) (least : Option ℕ)
    → HasPassed n low old number xs → Drops number xs ys → IsFirst ys least → least ≡ Some number
    → HasPassed n low old (number + 1) ys
passed_more = grind (arith, cases_lt)

pub passed_drops : (count n low : ℕ) (old : List Bool) (number : ℕ) (xs : List Bool) → HasPassed n low old number xs
    → Drops n (others count low old) (others count number xs)
passed_drops = grind (arith, cases_lt, others-past, others-from, others-before)

pub passed_first : (count number : ℕ) (xs ys : List Bool) (least : Option ℕ) → number < count → Drops number xs ys
    → IsFirst ys least → least ≢ Some number → IsFirst (others count number ys) (Some number)
passed_first = grind (arith, others-from, others-before, first_from)

pub passed_all : (count number : ℕ) (xs : List Bool) → count ≤ number → IsFirst (others count number xs) None
passed_all = grind (arith, cases_lt, others-before, others-past)
