-- The numbers that a cursor still gives, and what a call takes from them.
use Rattle.std.specs.Prelude.{◌≡◌, ℕ, ◌<◌, ◌≤◌, Bool, true, nat_le, ◌&&◌, List, [], ◌∷◌, ◌++◌, filter, Option}
use Rattle.std.specs.Prelude.{MatchOption}
use Rattle.std.specs.List.{range_with_len, AllByRecursion}
use Rattle.mail_answer.specs.CursorAhead.{WalkAhead}
use Rattle.mail_answer.specs.Cursors.{ToCome}
use Rattle.mail_answer.specs.Marks.{truth_at}

-- of `count` messages, the numbers from `low` on that still come
abbrev pub numbers_to_come : ℕ → ℕ → List Bool → List ℕ
numbers_to_come low count truths = filter (λ n. nat_le low n && truth_at truths n) (range_with_len 0 count)

-- what a cursor still gives whose walk still gives this
abbrev pub walk_to_come : ℕ → ℕ → WalkAhead → ToCome
walk_to_come low count walk = record {
  numbers = numbers_to_come low count walk.truths;
  left = walk.left;
  postings = walk.postings;
}

-- each message that still comes is one of `count`
abbrev pub AreWithin : ℕ → List Bool → Type 0
AreWithin count truths = (m : ℕ) → truth_at truths m ≡ true → m < count

-- the first number is returned and dropped, or there was none
abbrev pub TakesFirst : List ℕ → List ℕ → Option ℕ → Type 0
TakesFirst old new number = MatchOption number ((old ≡ []) × (new ≡ [])) (λ n. old ≡ n ∷ new)

-- the least number that is at least n is returned and dropped, with all before it; if there is none, all are dropped
abbrev pub TakesFrom : ℕ → List ℕ → List ℕ → Option ℕ → Type 0
TakesFrom n old new number =
    MatchOption number (AllByRecursion (λ m. m < n) old × (new ≡ []))
    (λ m. (n ≤ m) × ((dropped : List ℕ) × AllByRecursion (λ k. k < n) dropped × (old ≡ dropped ++ m ∷ new)))
