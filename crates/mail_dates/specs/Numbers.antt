-- Numbers in decimal digits, read from a text.
use Rattle.std.specs.Prelude.{ℕ, nat_le, ◌&&◌, List, length, Option, Some, None, if◌then◌else◌, option_and_then}
use Rattle.std.specs.Char.{is_ascii_digit}
use Rattle.std.specs.List.{list_all}
use Rattle.std.specs.Str.Parse.{digits_value}

-- what f makes of the value, if there is one
infixl 10 ◌>>=◌
abbrev pub ◌>>=◌ : {A B : Type 0} → Option A → (A → Option B) → Option B
o >>= f = option_and_then f o

-- the number that the text writes in decimal, if it has `least` to `most` digits and nothing else
abbrev pub number_in : ℕ → ℕ → List ℕ → Option ℕ
number_in least most text =
    if nat_le least (length text) && nat_le (length text) most && list_all is_ascii_digit text
    then Some (digits_value 10 text)
    else None
