-- What a walk through the messages of an index still gives, with one truth for each message.
use Rattle.std.specs.Prelude.{◌≡◌, ℕ, ◌+◌, ◌-◌, ◌<◌, ◌≤◌, nat_le, Bool, true, false, not, ◌&&◌, ◌||◌, max, List, []}
use Rattle.std.specs.Prelude.{◌∷◌, MatchOption, Option, Some, None, min}
use Rattle.mail_index.specs.Steps.{add_steps}
use Rattle.mail_answer.specs.Marks.{truth_at, each_number}

-- whether each message still comes, how many steps are left at most, how many of these are postings, and how many
-- levels are below
pub record WalkAhead : Type 0 where
  pub truths : List Bool
  pub left : ℕ
  pub postings : ℕ
  pub below : ℕ

-- the messages that still come in both lists
abbrev pub both : List Bool → List Bool → List Bool
both [] ys = []
both (x ∷ xs) [] = []
both (x ∷ xs) (y ∷ ys) = (x && y) ∷ both xs ys

-- the messages that still come in one list or the other
abbrev pub one_or_other : List Bool → List Bool → List Bool
one_or_other [] ys = ys
one_or_other (x ∷ xs) [] = x ∷ xs
one_or_other (x ∷ xs) (y ∷ ys) = (x || y) ∷ one_or_other xs ys

-- the messages that still come in each of one or more walks; none if there is no walk
abbrev pub common : List WalkAhead → List Bool
common [] = []
common (w ∷ []) = w.truths
common (w ∷ v ∷ ws) = both w.truths (common (v ∷ ws))

-- the messages that still come in at least one walk
abbrev pub union_of : List WalkAhead → List Bool
union_of [] = []
union_of (w ∷ ws) = one_or_other w.truths (union_of ws)

-- of `count` messages, those from `low` on that don't come in the walk
abbrev pub others : ℕ → ℕ → List Bool → List Bool
others count low truths = each_number count (λ n. nat_le low n && not (truth_at truths n))

-- how many steps are left at most in all walks
abbrev pub steps_left_in : List WalkAhead → ℕ
steps_left_in [] = 0
steps_left_in (w ∷ ws) = w.left + steps_left_in ws

-- how many postings are left in all walks
abbrev pub postings_in : List WalkAhead → ℕ
postings_in [] = 0
postings_in (w ∷ ws) = w.postings + postings_in ws

-- one more than the most levels below a walk; 0 if there is no walk
abbrev pub levels : List WalkAhead → ℕ
levels [] = 0
levels (w ∷ ws) = max (w.below + 1) (levels ws)

-- the messages from n on stay, and those below n are dropped
pub record Drops (n : ℕ) (old new : List Bool) : Type 0 where
  pub rest : (m : ℕ) → n ≤ m → truth_at new m ≡ truth_at old m
  pub below : (m : ℕ) → m < n → truth_at new m ≡ false

-- the number is the first that still comes, or None if none comes
abbrev pub IsFirst : List Bool → Option ℕ → Type 0
IsFirst truths number =
    MatchOption number ((m : ℕ) → truth_at truths m ≡ false)
    (λ n. (truth_at truths n ≡ true) × ((m : ℕ) → m < n → truth_at truths m ≡ false))

-- The number is at least n, no number below it still comes, and it is n only if n itself still comes; None if no number
-- comes.
abbrev pub Reaches : ℕ → List Bool → Option ℕ → Type 0
Reaches n truths number =
    MatchOption number ((m : ℕ) → truth_at truths m ≡ false)
    (λ k. (n ≤ k) × ((m : ℕ) → m < k → truth_at truths m ≡ false) × (k ≡ n → truth_at truths n ≡ true))

-- the lesser of two numbers; if only one is there, this one
abbrev pub lesser_of : Option ℕ → Option ℕ → Option ℕ
lesser_of None other = other
lesser_of (Some m) None = Some m
lesser_of (Some m) (Some n) = Some (min m n)

-- the steps rise by at most what `left` falls by
pub record Spends (old_left new_left old_steps new_steps : ℕ) : Type 0 where
  pub rises : old_steps ≤ new_steps
  pub most : new_steps + new_left ≤ old_steps + old_left

-- the steps rise by exactly what `left` falls by, up to the greatest value of their count
pub record CountsSteps (old_left new_left old_steps new_steps : ℕ) : Type 0 where
  pub fewer : new_left ≤ old_left
  pub counted : new_steps ≡ add_steps old_steps (old_left - new_left)

-- the steps rise by at least what `postings` falls by, up to the greatest value of their count
pub record CountsPostings (old_postings new_postings old_steps new_steps : ℕ) : Type 0 where
  pub fewer : new_postings ≤ old_postings
  pub counted : add_steps old_steps (old_postings - new_postings) ≤ new_steps
