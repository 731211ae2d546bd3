-- The range that a text of ISO 8601 dates names.
use Rattle.std.specs.Prelude.{ℕ, ◌==◌, Bool, ℤ, pos, List, [], ◌∷◌, Option, Some, None, Result, ok_or, option_map}
use Rattle.std.specs.List.{slice_split}
use Rattle.mail_dates.specs.declared.fault.DateFault.{DateFault}
use Rattle.mail_dates.specs.declared.fault.DateFault.TheVariants.{BadDate}
use Rattle.mail_dates.specs.declared.days.Days.{Days}
use Rattle.mail_dates.specs.declared.days.DaysOfYear.TheVariants as days
use Rattle.mail_dates.specs.declared.range.Range.{Range}
use Rattle.mail_dates.specs.Numbers.{number_in, ◌>>=◌}
use Rattle.mail_dates.specs.Calendar.{day_number, start_of_day, end_of_day}
use Rattle.mail_dates.specs.Periods.{days_in_by}
use Rattle.mail_dates.specs.Ranges.{is_dash, range_of_days}

-- whether a byte is `.`
abbrev pub is_dot : ℕ → Bool
is_dot b = b == 0x2E

-- `day_number` gives the number of a day of the calendar.
module _ (day_number : ℤ → ℕ → ℕ → Option ℤ) where
  -- the days of the month YYYY-MM, from the texts of the year and the month
  abbrev pub iso_month_by : List ℕ → List ℕ → Option Days
  iso_month_by year month = do
    year ← number_in 4 4 year
    month ← number_in 2 2 month
    days_in_by day_number (days.Month month) (pos year)

  -- the day YYYY-MM-DD, from the texts of its parts
  abbrev pub iso_day_by : List ℕ → List ℕ → List ℕ → Option Days
  iso_day_by year month day = do
    year ← number_in 4 4 year
    month ← number_in 2 2 month
    day ← number_in 2 2 day
    days_in_by day_number (days.Day month day) (pos year)

  -- the days of the parts of an expression
  abbrev pub iso_parts_by : List (List ℕ) → Option Days
  iso_parts_by (year ∷ month ∷ []) = iso_month_by year month
  iso_parts_by (year ∷ month ∷ day ∷ []) = iso_day_by year month day
  iso_parts_by _ = None

  -- the days of an expression
  unfoldable pub iso_days_by : List ℕ → Option Days
  iso_days_by text = iso_parts_by (slice_split is_dash text)

  -- the first second of an expression; an empty one is no bound
  abbrev pub iso_since_by : List ℕ → Option (Option ℤ)
  iso_since_by [] = Some None
  iso_since_by text = option_map (λ days. Some (start_of_day days.first)) (iso_days_by text)

  -- the last second of an expression; an empty one is no bound
  abbrev pub iso_until_by : List ℕ → Option (Option ℤ)
  iso_until_by [] = Some None
  iso_until_by text = option_map (λ days. Some (end_of_day days.last)) (iso_days_by text)

  -- the range between two expressions, one of which may be empty
  abbrev pub iso_between_by : List ℕ → List ℕ → Option Range
  iso_between_by [] [] = None
  iso_between_by since until = do
    from ← iso_since_by since
    until ← iso_until_by until
    Some (record { from = from; until = until })

  -- the range of one expression
  abbrev pub iso_range_of_one_by : List ℕ → Option Range
  iso_range_of_one_by text = option_map range_of_days (iso_days_by text)

  -- the range of a text cut at its dots: one expression, or two around a pair of dots
  abbrev pub iso_range_of_parts_by : List (List ℕ) → Option Range
  iso_range_of_parts_by (both ∷ []) = iso_range_of_one_by both
  iso_range_of_parts_by (since ∷ [] ∷ until ∷ []) = iso_between_by since until
  iso_range_of_parts_by _ = None

  -- the range of a text, or the fault BadDate
  abbrev pub iso_range_by : List ℕ → Result Range DateFault
  iso_range_by text = ok_or (iso_range_of_parts_by (slice_split is_dot text)) BadDate

-- the range of a text, by the numbers of the calendar
unfoldable pub iso_range_of : List ℕ → Result Range DateFault
iso_range_of text = iso_range_by day_number text
