-- Which lines are separators: `From `, an address and a date (RFC 4155, Appendix A). The rule here is more lenient: the
-- line begins with `From `, and has a time and a later year. Neither the address nor the place of a zone matters.
use Rattle.std.specs.Prelude.{ℕ, ◌-◌, Bool, false, ◌||◌, ◌&&◌, ◌==◌, if◌then◌else◌, List, [], ◌∷◌, length, take, drop}
use Rattle.std.specs.Prelude.{codes}
use Rattle.std.specs.List.{list_any, slice_split}
use Rattle.std.specs.Char.{is_ascii_digit}
use Rattle.std.specs.Cmp.Lexicographic.{pointwise}
use Rattle.std.specs.Str.{bytes_eq}

-- a line without its final LF, and without a CR directly before that
unfoldable pub without_break : List ℕ → List ℕ
without_break line =
    if bytes_eq (drop (length line - 2) line) (13 ∷ 10 ∷ []) then take (length line - 2) line
    else if bytes_eq (drop (length line - 1) line) (10 ∷ []) then take (length line - 1) line else line

-- the pieces of a text between spaces
abbrev pub separator_tokens : List ℕ → List (List ℕ)
separator_tokens text = slice_split (λ byte. byte == 32) text

-- whether a sign fits a byte: `d` fits any digit, and any other sign fits itself
abbrev pub stands_for : ℕ → ℕ → Bool
stands_for sign byte = if sign == 100 then is_ascii_digit byte else byte == sign

-- whether a text has a form: it has as many bytes as the form has signs, and each sign fits its byte
unfoldable pub has_form : List ℕ → List ℕ → Bool
has_form form text = pointwise stands_for form text

-- whether a piece is a time: `dd:dd` or `dd:dd:dd`
abbrev pub is_time : List ℕ → Bool
is_time token = has_form (codes "dd:dd") token || has_form (codes "dd:dd:dd") token

-- whether a piece is a year: four digits
abbrev pub is_year : List ℕ → Bool
is_year token = has_form (codes "dddd") token

-- whether a piece is a time, and a later one is a year
abbrev pub has_time_then_year : List (List ℕ) → Bool
has_time_then_year [] = false
has_time_then_year (token ∷ later) = (is_time token && list_any is_year later) || has_time_then_year later

-- whether a line is a separator: it begins with `From `, and then has a time and a later year
unfoldable pub is_separator : List ℕ → Bool
is_separator line = bytes_eq (take 5 line) (codes "From ") && has_time_then_year
    (separator_tokens (without_break (drop 5 line)))
