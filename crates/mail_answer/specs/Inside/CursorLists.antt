-- The numbers of a posting list on which a walk has begun.
use Rattle.std.specs.Prelude.{◌≡◌, ℕ, ◌<◌, Bool, true, nat_lt, List, ◌++◌, length, Option, Some, None}
use Rattle.std.specs.List.{AllByRecursion}
use Rattle.std.specs.Option.{option_to_list}
use Rattle.mail_index.specs.Tables.{RisesFrom}
use Rattle.mail_answer.specs.TableFacts.{is_number_among}
use Rattle.mail_answer.specs.CursorAhead.{WalkAhead}
use Rattle.mail_answer.specs.Marks.{each_number}

-- the first number, if it was taken from its list already, and the others
abbrev pub numbers_ahead : Option ℕ → List ℕ → List ℕ
numbers_ahead first after = option_to_list first ++ after

-- for each of `count` messages, whether it is among the numbers
abbrev pub truths_among : ℕ → List ℕ → List Bool
truths_among count numbers = each_number count (λ n. is_number_among n numbers)

-- what the list still gives, with one step for each number that wasn't taken from it yet
abbrev pub list_ahead : ℕ → Option ℕ → List ℕ → WalkAhead
list_ahead count first after = record {
  truths = truths_among count (numbers_ahead first after);
  left = length after;
  postings = length after;
  below = 0;
}

-- rising numbers below `count`
pub record AreNumbers (count : ℕ) (numbers : List ℕ) : Type 0 where
  pub rises : RisesFrom 0 numbers
  pub below : AllByRecursion (λ n. n < count) numbers

-- whether there is no number yet, or one below n
abbrev pub is_before : Option ℕ → ℕ → Bool
is_before None n = true
is_before (Some m) n = nat_lt m n

-- the numbers below n are dropped from the front of the list
pub record AreDroppedBelow (n : ℕ) (old new : List ℕ) : Type 0 where
  pub dropped : List ℕ
  pub split : old ≡ dropped ++ new
  pub below : AllByRecursion (λ m. m < n) dropped
  pub rises : RisesFrom n new
