-- The grammar of periods, as a range of days names them: the forms of texts, and the days of each.
use Rattle.std.specs.Prelude.{◌≡◌, ℕ, ◌*◌, ◌≤◌, true, ℤ, pos, ◌-ℤ◌, List, [], ◌∷◌, ◌++◌, length, Option, Some}
use Rattle.std.specs.Char.{is_ascii_digit}
use Rattle.std.specs.List.{list_all}
use Rattle.mail_dates.specs.declared.fault.DateFault.{DateFault}
use Rattle.mail_dates.specs.declared.fault.DateFault.TheVariants.{BadDate, BadNumber}
use Rattle.mail_dates.specs.declared.days.Days.{Days}
use Rattle.mail_dates.specs.declared.days.DaysOfYear.TheVariants as days
use Rattle.mail_dates.specs.declared.period.Unit.{Unit}
use Rattle.mail_dates.specs.Numbers.{number_in}
use Rattle.mail_dates.specs.Calendar.{day_number, month_of}
use Rattle.mail_dates.specs.Periods.{unit_of, days_in_unit, one_day, day_of, days_from_to, days_in_by, latest_days_by}

-- the forms of a period
pub data Form : Type 0 where
  DaysAgo FullDate WholeYear NamedMonth DayThenMonth MonthThenDay : Form

-- The text has this form, and these are its days, if the calendar has them. Today is the day `today`. Days without a
-- year are those of the latest year that has them and in which they begin by the day `by`.
pub data IsPeriod (today by : ℤ) : List ℕ → Form → Option Days → Type 0 where
  -- 1 to 4 digits and `d`, `w`, `m` or `y`: the one day that is this many days, weeks, months of 30 days or years of
  -- 365 days before today
  CountOfUnits : (digits : List ℕ) (count letter : ℕ) (unit : Unit) → number_in 1 4 digits ≡ Some count → unit_of letter
      ≡ Some unit
      → IsPeriod today by (digits ++ letter ∷ []) DaysAgo (Some (one_day (today -ℤ pos (count * days_in_unit unit))))
  -- YYYYMMDD: that day
  YearMonthDay : (yyyy mm dd : List ℕ) (year month day : ℕ) → number_in 4 4 yyyy ≡ Some year → number_in 2 2 mm
      ≡ Some month → number_in 2 2 dd ≡ Some day
      → IsPeriod today by (yyyy ++ (mm ++ dd)) FullDate (days_in_by day_number (days.Day month day) (pos year))
  -- YYYY: from 1 January to 31 December
  Year : (yyyy : List ℕ) (year : ℕ) → number_in 4 4 yyyy ≡ Some year
      → IsPeriod today by yyyy WholeYear (days_from_to (day_number (pos year) 1 1) (day_number (pos year) 12 31))
  -- `jan` to `dec`: that month
  Month : (name : List ℕ) (month : ℕ) → month_of name ≡ Some month
      → IsPeriod today by name NamedMonth (latest_days_by day_number (days.Month month) by)
  -- one or two digits, from 1 to 31 and without a 0 at the front, and a month: that day
  DayMonth : (digits name : List ℕ) (day month : ℕ) → day_of digits ≡ Some day → month_of name ≡ Some month
      → IsPeriod today by (digits ++ name) DayThenMonth (latest_days_by day_number (days.Day month day) by)
  -- a month, and such a day
  MonthDay : (name digits : List ℕ) (month day : ℕ) → month_of name ≡ Some month → day_of digits ≡ Some day
      → IsPeriod today by (name ++ digits) MonthThenDay (latest_days_by day_number (days.Day month day) by)

-- the text has one of the forms, and the calendar has these days
pub record NamesDays (today by : ℤ) (text : List ℕ) (days : Days) : Type 0 where
  pub form : Form
  pub period : IsPeriod today by text form (Some days)

-- the text is more than four digits, and then `d`, `w`, `m` or `y`
pub data IsLongCount : List ℕ → Type 0 where
  DigitsAndUnit : (digits : List ℕ) (letter : ℕ) (unit : Unit) → 5 ≤ length digits → list_all is_ascii_digit digits
      ≡ true → unit_of letter ≡ Some unit
      → IsLongCount (digits ++ letter ∷ [])

-- why a text names no days
pub data IsRefusedPeriod (today by : ℤ) (text : List ℕ) : DateFault → Type 0 where
  LongCount : IsLongCount text → IsRefusedPeriod today by text BadNumber
  NoPeriod : ((days : Days) → NamesDays today by text days → ⊥) → (IsLongCount text → ⊥)
      → IsRefusedPeriod today by text BadDate
