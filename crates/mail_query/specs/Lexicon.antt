-- What the readers of queries need to know of words and dates.
use Rattle.std.specs.Prelude.{ℕ, Bool, List, Option}
use Rattle.mail_dates.specs.declared.range.Range.{Range}

-- Whether a text is a word, or can be a part of one. `folded` is a text with its case folded, as words are compared.
-- `dates` is the range of days that a text names, if it names one.
pub record Lexicon : Type 0 where
  pub is_word : List ℕ → Bool
  pub is_piece : List ℕ → Bool
  pub folded : List ℕ → List ℕ
  pub dates : List ℕ → Option Range
