-- Lists with a truth for each message, and how they grow.
use Rattle.std.specs.Prelude.{◌≡◌, ℕ, ◌<◌, Bool, false, ◌&&◌, ◌||◌, List, length, map, bytes_eq}
use Rattle.std.specs.List.{list_any, range_with_len, slice_index_or}
use Rattle.mail_query.specs.Truth.{contains_text, word_begins_with}
use Rattle.mail_answer.specs.TableFacts.{is_number_among}
use Rattle.mail_answer.specs.declared.cursor.texts.Fit.{Fit}
use Rattle.mail_answer.specs.declared.cursor.texts.Fit.TheVariants.{Whole, Within, Front}

-- the truth of the message of this number; false after the last
abbrev pub truth_at : List Bool → ℕ → Bool
truth_at truths n = slice_index_or truths n false

-- for each of `count` messages, what the test says of its number
abbrev pub each_number : ℕ → (ℕ → Bool) → List Bool
each_number count test = map test (range_with_len 0 count)

-- the messages whose numbers pass the test were added to those that were true
pub record Adds (test : ℕ → Bool) (old new : List Bool) : Type 0 where
  pub long : length new ≡ length old
  pub each : (n : ℕ) → n < length old → truth_at new n ≡ (truth_at old n || test n)

-- whether a text fits that of a query, for each way to fit
abbrev pub fits : Fit → List ℕ → List ℕ → Bool
fits Whole = bytes_eq
fits Within = contains_text
fits Front = word_begins_with

-- whether one of these keys, each with its numbers, passes and has the number
abbrev pub some_key : (List ℕ → Bool) → ℕ → List (List ℕ × List ℕ) → Bool
some_key passes n keys = list_any (λ k. passes k.0 && is_number_among n k.1) keys
