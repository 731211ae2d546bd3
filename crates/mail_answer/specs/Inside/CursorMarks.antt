-- A window over the messages of some lists: the messages in it are marked, and the others are left in the lists.
use Rattle.std.specs.Prelude.{◌≡◌, ℕ, ◌+◌, ◌*◌, ◌/◌, ◌%◌, ◌^◌, ◌<◌, ◌≤◌, nat_le, nat_eq, Bool, true, false, ◌&&◌}
use Rattle.std.specs.Prelude.{List, ◌++◌, length, replicate, Option, MatchOption}
use Rattle.std.specs.Int.{bit_at}
use Rattle.std.specs.List.{slice_index_or}
use Rattle.mail_answer.specs.Marks.{truth_at, each_number}
use Rattle.mail_answer.specs.CursorAhead.{WalkAhead, IsFirst, steps_left_in, one_or_other, union_of}
use Rattle.mail_answer.specs.declared.cursor.head.Head.{Head}
use Rattle.mail_answer.specs.declared.cursor.head.Head.TheVariants.{Unasked, Asked}
use Rattle.mail_answer.specs.Inside.CursorTexts.{some_has}

-- which messages of a window are marked: each has a bit of the words, from the lowest bit of the first word on
abbrev pub marks_in : List ℕ → List Bool
marks_in words =
    each_number (64 * length words) (λ k. nat_eq (bit_at (slice_index_or words (k / 64) 0) (k % 64)) 1)

-- the messages that are marked, from the window's first message on, or are in a list
abbrev pub marked_or_listed : ℕ → List Bool → List WalkAhead → List Bool
marked_or_listed start marks lists = one_or_other (replicate start false ++ marks) (union_of lists)

-- the messages that are true, from `low` on
abbrev pub those_from : ℕ → List Bool → List Bool
those_from low truths = each_number (length truths) (λ n. nat_le low n && truth_at truths n)

-- the messages from `low` on that are marked or are in a list
abbrev pub truths_marked : ℕ → ℕ → List Bool → List WalkAhead → List Bool
truths_marked low start marks lists = those_from low (marked_or_listed start marks lists)

-- what the window and the lists still give, with one step for each number of the lists
abbrev pub marks_ahead : ℕ → ℕ → List Bool → List WalkAhead → WalkAhead
marks_ahead low start marks lists = record {
  truths = truths_marked low start marks lists;
  left = steps_left_in lists;
  postings = steps_left_in lists;
  below = 0;
}

-- what is remembered of the first number is true
abbrev pub IsHead : List Bool → Head → Type 0
IsHead truths Unasked = Unit {0}
IsHead truths (Asked first) = IsFirst truths first

-- for each number in a list, the next number fits in 32 bits
abbrev pub AreFew : List WalkAhead → Type 0
AreFew lists = (m : ℕ) → some_has m lists ≡ true → m + 1 < 2 ^ 32

-- The marks are those of a window, each comes before all that is left in the lists, and what is remembered of the first
-- of these is true.
pub record HaveMarks (start : ℕ) (marks : List Bool) (lists : List WalkAhead) (ahead : Head) : Type 0 where
  pub window : length marks ≡ 32768
  pub listed : AreFew lists
  pub next : IsHead (union_of lists) ahead
  pub marked : (k : ℕ) → truth_at marks k ≡ true → start + k < 2 ^ 32
  pub before : (k m : ℕ) → truth_at marks k ≡ true → some_has m lists ≡ true → start + k < m

-- the number is the first from `low` on that is marked, or None if none is
abbrev pub IsFirstMark : ℕ → ℕ → List Bool → Option ℕ → Type 0
IsFirstMark start low marks number =
    MatchOption number ((k : ℕ) → low ≤ start + k → truth_at marks k ≡ false)
    (λ n. (low ≤ n) × ((k : ℕ) × (n ≡ start + k) × (truth_at marks k ≡ true)
    × ((j : ℕ) → low ≤ start + j → j < k → truth_at marks j ≡ false)))

-- the place is the first from `from` on that is marked, or None if none is
abbrev pub IsFirstPlace : ℕ → List Bool → Option ℕ → Type 0
IsFirstPlace from marks place =
    MatchOption place ((k : ℕ) → from ≤ k → truth_at marks k ≡ false)
    (λ p. (from ≤ p) × (truth_at marks p ≡ true) × ((k : ℕ) → from ≤ k → k < p → truth_at marks k ≡ false))
