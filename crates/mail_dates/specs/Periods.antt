-- The periods that a range of days names, and the days of each, as they are read. Laws prove that PeriodGrammar says
-- the same.
use Rattle.std.specs.Prelude.{ℕ, ◌-◌, ◌*◌, nat_le, nat_lt, ◌==◌, Bool, false, not, ◌&&◌, ℤ, pos, ◌-ℤ◌, int_le, List}
use Rattle.std.specs.Prelude.{length, take, drop, slice_get, slice_range, Option, Some, None, Result, Err, ok_or}
use Rattle.std.specs.Prelude.{is_some, if◌then◌else◌, option_map}
use Rattle.std.specs.Option.{option_or}
use Rattle.std.specs.Char.{is_ascii_digit, to_ascii_lowercase}
use Rattle.std.specs.List.{list_all}
use Rattle.jiff_core.specs.Calendar.{days_in_month}
use Rattle.mail_dates.specs.declared.fault.DateFault.{DateFault}
use Rattle.mail_dates.specs.declared.fault.DateFault.TheVariants.{BadDate, BadNumber}
use Rattle.mail_dates.specs.declared.days.Days.{Days}
use Rattle.mail_dates.specs.declared.days.DaysOfYear.{DaysOfYear}
use Rattle.mail_dates.specs.declared.days.DaysOfYear.TheVariants as days
use Rattle.mail_dates.specs.declared.period.Unit.{Unit}
use Rattle.mail_dates.specs.declared.period.Unit.TheVariants as unit
use Rattle.mail_dates.specs.declared.period.Period.{Period}
use Rattle.mail_dates.specs.declared.period.Period.TheVariants.{Ago, InYear, Yearly}
use Rattle.mail_dates.specs.Numbers.{number_in, ◌>>=◌}
use Rattle.mail_dates.specs.Calendar.{month_of, latest_year}

-- ---- the period of a text

-- the unit that a letter means, in either case
abbrev pub unit_of : ℕ → Option Unit
unit_of letter = let lower = to_ascii_lowercase letter in
    if lower == 0x64 then Some unit.Day
    else (if lower == 0x77 then Some unit.Week
    else (if lower == 0x6D then Some unit.Month
    else (if lower == 0x79 then Some unit.Year else None)))

-- the unit that the last letter of a text means
abbrev pub last_unit : List ℕ → Option Unit
last_unit text = slice_get text (length text - 1) >>= unit_of

-- the text without its last byte
abbrev pub before_last_letter : List ℕ → List ℕ
before_last_letter text = take (length text - 1) text

-- the period of one to four digits and then a unit
abbrev pub ago : List ℕ → Option Period
ago text = do
  unit ← last_unit text
  count ← number_in 1 4 (before_last_letter text)
  Some (Ago count unit)

-- whether a text is more than four digits and then a unit
abbrev pub has_long_count : List ℕ → Bool
has_long_count text =
    is_some (last_unit text) && nat_lt 4 (length (before_last_letter text)) && list_all is_ascii_digit
    (before_last_letter text)

-- the period of YYYYMMDD, by its parts
abbrev pub full_date_of : List ℕ → Option Period
full_date_of text = do
  year ← number_in 4 4 (take 4 text)
  month ← number_in 2 2 (slice_range text 4 6)
  day ← number_in 2 2 (drop 6 text)
  Some (InYear (pos year) (days.Day month day))

-- the period of a text that is YYYYMMDD
abbrev pub full_date : List ℕ → Option Period
full_date text = if length text == 8 then full_date_of text else None

-- the period of YYYY, a whole year
abbrev pub whole_year : List ℕ → Option Period
whole_year text = option_map (λ year. InYear (pos year) days.All) (number_in 4 4 text)

-- the period of a month's name
abbrev pub yearly_month : List ℕ → Option Period
yearly_month text = option_map (λ month. Yearly (days.Month month)) (month_of text)

-- the number of a day: one or two digits, from 1 to 31, without a 0 at the front
abbrev pub day_of : List ℕ → Option ℕ
day_of text = do
  first ← slice_get text 0
  day ← number_in 1 2 text
  if not (first == 0x30) && nat_le day 31 then Some day else None

-- the period of a day of a month, if there are both
abbrev pub yearly_day : Option ℕ → Option ℕ → Option Period
yearly_day month day = do
  month ← month
  day ← day
  Some (Yearly (days.Day month day))

-- the period of a day and then a month's name
abbrev pub day_and_month : List ℕ → Option Period
day_and_month text = yearly_day (month_of (drop (length text - 3) text)) (day_of (take (length text - 3) text))

-- the period of a month's name and then a day
abbrev pub month_and_day : List ℕ → Option Period
month_and_day text = yearly_day (month_of (take 3 text)) (day_of (drop 3 text))

-- the period that a text names
unfoldable pub period_of : List ℕ → Result Period DateFault
period_of text =
    if has_long_count text then Err BadNumber
    else ok_or
    (option_or (ago text) (option_or (full_date text) (option_or (whole_year text)
    (option_or (yearly_month text) (option_or (day_and_month text) (month_and_day text))))))
    BadDate

-- ---- the days of a period

-- how many days a unit has
abbrev pub days_in_unit : Unit → ℕ
days_in_unit unit.Day = 1
days_in_unit unit.Week = 7
days_in_unit unit.Month = 30
days_in_unit unit.Year = 365

-- one day as days
abbrev pub one_day : ℤ → Days
one_day day = record { first = day; last = day }

-- the days from the first to the last, if there are both
abbrev pub days_from_to : Option ℤ → Option ℤ → Option Days
days_from_to first last = do
  first ← first
  last ← last
  Some (record { first = first; last = last })

-- whether there are days, and they begin on the day `by` or before it
abbrev pub begin_by : ℤ → Option Days → Bool
begin_by by None = false
begin_by by (Some days) = int_le days.first by

-- `day_number` gives the number of a day of the calendar.
module _ (day_number : ℤ → ℕ → ℕ → Option ℤ) where
  -- the numbers of these days in a year, if the year has them
  abbrev pub days_in_by : DaysOfYear → ℤ → Option Days
  days_in_by days.All year = days_from_to (day_number year 1 1) (day_number year 12 31)
  days_in_by (days.Month month) year = days_from_to (day_number year month 1)
      (day_number year month (days_in_month year month))
  days_in_by (days.Day month day) year = days_from_to (day_number year month day) (day_number year month day)

  -- whether the year has these days, and they begin by the day `by`
  abbrev pub fit_by : DaysOfYear → ℤ → ℤ → Bool
  fit_by which by year = begin_by by (days_in_by which year)

  -- the numbers of these days in the latest year in which they fit, if there is one
  unfoldable pub latest_days_by : DaysOfYear → ℤ → Option Days
  latest_days_by which by = latest_year (fit_by which by) >>= days_in_by which

  -- the days of a period, if the calendar has them; days without a year begin by the day `by`
  abbrev pub period_days_by : ℤ → ℤ → Period → Option Days
  period_days_by today by (Ago count unit) = Some (one_day (today -ℤ pos (count * days_in_unit unit)))
  period_days_by today by (InYear year which) = days_in_by which year
  period_days_by today by (Yearly which) = latest_days_by which by
