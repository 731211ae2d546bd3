-- The grammar of the sizes that a pattern `z:low-high` names, with one case for each production.
use Rattle.std.specs.Prelude.{◌≡◌, ℕ, ◌*◌, ◌≤◌, true, List, [], ◌∷◌, ◌++◌, length, Option, None, Some}
use Rattle.std.specs.List.{list_all}
use Rattle.std.specs.Char.{is_ascii_digit}
use Rattle.std.specs.Str.Parse.{digits_value}
use Rattle.mail_query.specs.Query.{Query, Size}
use Rattle.mail_query.specs.Sizes.{size_limit, factor_of}

-- number = 1*18DIGIT
pub record IsNumber (text : List ℕ) : Type 0 where
  pub some : 1 ≤ length text
  pub few : length text ≤ 18
  pub digits : list_all is_ascii_digit text ≡ true

-- size = number ["k" / "K" / "M" / "m"]: this many bytes, at most the limit
pub data IsSize : List ℕ → ℕ → Type 0 where
  InBytes : (digits : List ℕ) → IsNumber digits → digits_value 10 digits ≤ size_limit
      → IsSize digits (digits_value 10 digits)
  InUnits : (digits : List ℕ) (letter factor : ℕ) → IsNumber digits → factor_of letter ≡ Some factor
      → digits_value 10 digits * factor ≤ size_limit
      → IsSize (digits ++ letter ∷ []) (digits_value 10 digits * factor)

-- low = [size]: an empty text is 0
pub data IsLow : List ℕ → ℕ → Type 0 where
  FromZero : IsLow [] 0
  FromSize : (text : List ℕ) (size : ℕ) → IsSize text size → IsLow text size

-- high = [size]: an empty text is no bound
pub data IsHigh : List ℕ → Option ℕ → Type 0 where
  Unbounded : IsHigh [] None
  ToSize : (text : List ℕ) (size : ℕ) → IsSize text size → IsHigh text (Some size)

-- sizes = low "-" high: both ends are in the range
pub data IsSizes : List ℕ → Query → Type 0 where
  Between : (low high : List ℕ) (least : ℕ) (most : Option ℕ) → IsLow low least → IsHigh high most
      → IsSizes (low ++ 0x2D ∷ high) (Size least most)
