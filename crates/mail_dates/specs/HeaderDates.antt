-- The second that the Date field of a message says (RFC 5322 3.3, and its obsolete forms, 4.3).
use Rattle.std.specs.Prelude.{ℕ, ◌+◌, ◌*◌, ◌/◌, ◌%◌, nat_le, nat_lt, ◌==◌, Bool, not, ◌&&◌, ◌||◌, ℤ, pos, neg_ℤ, ◌+ℤ◌}
use Rattle.std.specs.Prelude.{◌-ℤ◌, List, [], ◌∷◌, length, filter, find, Option, Some, None, if◌then◌else◌, option_map}
use Rattle.std.specs.Prelude.{unwrap_or, bytes_eq, codes}
use Rattle.std.specs.List.{list_all, slice_split, before_first}
use Rattle.std.specs.Option.{option_map_or}
use Rattle.std.specs.Char.{is_ascii_alphabetic}
use Rattle.std.specs.Str.{str_to_ascii_lowercase}
use Rattle.mail_dates.specs.Numbers.{number_in, ◌>>=◌}
use Rattle.mail_dates.specs.Calendar.{day_number, month_of, start_of_day}

-- ---- tokens

-- whether a byte is a space, a tab or a comma
abbrev pub is_gap : ℕ → Bool
is_gap b = (b == 0x20) || (b == 0x09) || (b == 0x2C)

-- whether a byte is `(`
abbrev pub is_parenthesis : ℕ → Bool
is_parenthesis b = b == 0x28

-- the tokens of a text: what is between gaps and isn't empty
unfoldable pub date_tokens : List ℕ → List (List ℕ)
date_tokens text = filter (λ token. not (length token == 0)) (slice_split is_gap text)

-- a token and those of the rest; an empty token means that there is none
abbrev pub with_first : List ℕ → List ℕ → List (List ℕ)
with_first [] rest = []
with_first (b ∷ bs) rest = (b ∷ bs) ∷ date_tokens rest

-- the text before its first `(`
abbrev pub without_comments : List ℕ → List ℕ
without_comments text = before_first is_parenthesis text

-- the tokens without the name of a day of the week, right or not, if one comes first
abbrev pub without_day_name : List (List ℕ) → List (List ℕ)
without_day_name [] = []
without_day_name (token ∷ rest) = if list_all is_ascii_alphabetic token then rest else token ∷ rest

-- ---- the year, the time of day and the zone

-- The year that a number of this many digits means: two digits mean a year from 1950 to 2049, three count from 1900,
-- and four are the year itself.
abbrev pub year_with_century : ℕ → ℕ → ℕ
year_with_century digits n =
    if digits == 4 then n else (if (digits == 2) && nat_lt n 50 then n + 2000 else n + 1900)

-- the year that a token says, in two to four digits
abbrev pub year_of : List ℕ → Option ℕ
year_of token = option_map (year_with_century (length token)) (number_in 2 4 token)

-- the second of the day, if this is a time; second 60 is the first of the next minute
abbrev pub second_of_day : ℕ → ℕ → ℕ → Option ℕ
second_of_day hour minute second =
    if nat_le hour 23 && nat_le minute 59 && nat_le second 60 then Some (hour * 3600 + minute * 60 + second) else None

-- the second of the day of an hour and a minute, as texts, and a second
abbrev pub time_by : List ℕ → List ℕ → Option ℕ → Option ℕ
time_by hour minute second = do
  hour ← number_in 1 2 hour
  minute ← number_in 2 2 minute
  second ← second
  second_of_day hour minute second

-- the second of the day of the parts of a time, which are two or three; without seconds these are 0
abbrev pub time_of_parts : List (List ℕ) → Option ℕ
time_of_parts (hour ∷ minute ∷ []) = time_by hour minute (Some 0)
time_of_parts (hour ∷ minute ∷ second ∷ []) = time_by hour minute (number_in 2 2 second)
time_of_parts _ = None

-- whether a byte is `:`
abbrev pub is_colon : ℕ → Bool
is_colon b = b == 0x3A

-- the second of the day that a token says
unfoldable pub time_of : List ℕ → Option ℕ
time_of token = time_of_parts (slice_split is_colon token)

-- how many seconds `hhmm` is, with at most 23 hours and 59 minutes
abbrev pub offset_size : List ℕ → Option ℕ
offset_size digits =
    number_in 4 4 digits >>= (λ n. if nat_le (n / 100) 23 && nat_le (n % 100) 59
    then Some (n / 100 * 3600 + n % 100 * 60) else None)

-- the offset of `+hhmm` or `-hhmm`, in seconds east of UTC
abbrev pub numeric_offset : List ℕ → Option ℤ
numeric_offset [] = None
numeric_offset (sign ∷ digits) =
    if sign == 0x2B then option_map pos (offset_size digits)
    else (if sign == 0x2D then option_map (λ west. neg_ℤ (pos west)) (offset_size digits) else None)

-- the names of zones other than UTC, in small letters, and how many hours each is west of UTC
abbrev pub zones : List (List ℕ × ℕ)
zones =
    (codes "est", 5) ∷ (codes "edt", 4) ∷ (codes "cst", 6) ∷ (codes "cdt", 5)
    ∷ (codes "mst", 7) ∷ (codes "mdt", 6) ∷ (codes "pst", 8) ∷ (codes "pdt", 7) ∷ []

-- how many hours a zone with this name is west of UTC; GMT, UT and any name that isn't known are UTC
unfoldable pub hours_west : List ℕ → ℕ
hours_west (a ∷ b ∷ c ∷ []) =
    option_map_or (λ zone. zone.1) (find (λ zone. bytes_eq zone.0 (str_to_ascii_lowercase (a ∷ b ∷ c ∷ []))) zones) 0
hours_west _ = 0

-- how many seconds a zone is east of UTC
unfoldable pub offset_of : List ℕ → ℤ
offset_of token = unwrap_or (numeric_offset token) (neg_ℤ (pos (hours_west token * 3600)))

-- how many seconds the zone at the front of these tokens is east of UTC; without a token it is UTC
abbrev pub zone_offset : List (List ℕ) → ℤ
zone_offset [] = pos 0
zone_offset (token ∷ rest) = offset_of token

-- ---- the date

-- `day_number` gives the number of a day of the calendar.
module _ (day_number : ℤ → ℕ → ℕ → Option ℤ) where
  -- the second that these parts say, if each can be read
  abbrev pub date_of_parts_by : List ℕ → List ℕ → List ℕ → List ℕ → ℤ → Option ℤ
  date_of_parts_by day month year time offset = do
    day ← number_in 1 2 day
    month ← month_of month
    year ← year_of year
    date ← day_number (pos year) month day
    second ← time_of time
    Some ((start_of_day date +ℤ pos second) -ℤ offset)

  -- the second that the tokens say: the day, the month, the year, the time, and perhaps a zone; what follows is ignored
  abbrev pub date_of_tokens_by : List (List ℕ) → Option ℤ
  date_of_tokens_by (day ∷ month ∷ year ∷ time ∷ rest) = date_of_parts_by day month year time (zone_offset rest)
  date_of_tokens_by _ = None

  -- the second that the field says
  abbrev pub date_by : List ℕ → Option ℤ
  date_by text = date_of_tokens_by (without_day_name (date_tokens (without_comments text)))

-- the second that the field says, by the numbers of the calendar
unfoldable pub date_of : List ℕ → Option ℤ
date_of text = date_by day_number text
