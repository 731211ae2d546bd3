-- The sizes that a pattern `z:low-high` names.
use Rattle.std.specs.Prelude.{ℕ, ◌-◌, ◌*◌, nat_le, ◌&&◌, ◌||◌, ◌==◌, List, [], ◌∷◌, length, take, slice_get, Option}
use Rattle.std.specs.Prelude.{Some, None, if◌then◌else◌, option_map, option_and_then}
use Rattle.std.specs.List.{list_all}
use Rattle.std.specs.Char.{is_ascii_digit}
use Rattle.std.specs.Str.Parse.{digits_value}
use Rattle.mail_query.specs.Pieces.{texts_around}
use Rattle.mail_query.specs.Query.{Query, Size}

-- the greatest size that a query can name: 2^63 - 1 bytes
abbrev pub size_limit : ℕ
size_limit = 9223372036854775807

-- the factor of a letter after the digits: `k` 1024 and `m` 1048576, in either case
abbrev pub factor_of : ℕ → Option ℕ
factor_of letter =
    if (letter == 0x6B) || (letter == 0x4B) then Some 1024
    else (if (letter == 0x6D) || (letter == 0x4D) then Some 1048576 else None)

-- the last byte of a text, if it has one
abbrev pub last_byte : List ℕ → Option ℕ
last_byte text = slice_get text (length text - 1)

-- a text without its last byte
abbrev pub before_last_byte : List ℕ → List ℕ
before_last_byte text = take (length text - 1) text

-- the number of 1 to 18 digits times the factor, if that is at most the limit
abbrev pub scaled_size : ℕ → List ℕ → Option ℕ
scaled_size factor digits =
    if (nat_le 1 (length digits) && nat_le (length digits) 18) &&
    (list_all is_ascii_digit digits && nat_le (digits_value 10 digits * factor) size_limit)
    then Some (digits_value 10 digits * factor) else None

-- the size of a text whose last byte has this factor, or isn't a letter with one
abbrev pub size_with : Option ℕ → List ℕ → Option ℕ
size_with None text = scaled_size 1 text
size_with (Some factor) text = scaled_size factor (before_last_byte text)

-- the size that a text names: digits, and then a letter or none
unfoldable pub size_of : List ℕ → Option ℕ
size_of text = size_with (option_and_then factor_of (last_byte text)) text

-- the low end; an empty text is 0
abbrev pub low_of : List ℕ → Option ℕ
low_of [] = Some 0
low_of (b ∷ bs) = size_of (b ∷ bs)

-- the high end; an empty text is no bound
abbrev pub high_of : List ℕ → Option (Option ℕ)
high_of [] = Some None
high_of (b ∷ bs) = option_map Some (size_of (b ∷ bs))

-- a message with a size between these ends, if both are sizes
abbrev pub sizes_between : List ℕ → List ℕ → Option Query
sizes_between low high = option_and_then (λ l. option_map (λ h. Size l h) (high_of high)) (low_of low)

-- the sizes of a text with its ends before and after its first dash
unfoldable pub sizes_of : List ℕ → Option Query
sizes_of text = elim (texts_around 0x2D text) [ None ↦ None | Some p ↦ sizes_between p.0 p.1 ]
