-- Days and seconds of UTC on the proleptic Gregorian calendar (ISO 8601), where year 0 is a leap year.
use Rattle.std.specs.Prelude.{◌≡◌, ℕ, zero, suc, nat_le, Bool, true, false, ◌&&◌, IsTrue, ℤ, pos, negsuc, ◌+ℤ◌, ◌-ℤ◌}
use Rattle.std.specs.Prelude.{◌*ℤ◌, ◌≤ℤ◌, ◌<ℤ◌, unsigned_abs, List, [], ◌∷◌, Option, Some, None, if◌then◌else◌}
use Rattle.std.specs.Prelude.{option_map, position, codes}
use Rattle.std.specs.Str.{str_eq_ignore_ascii_case}
use Rattle.jiff_core.specs.Calendar.{days_from_civil, days_in_month}

-- the second is from 1970-01-01T00:00:00Z to 9999-12-31T23:59:59Z
abbrev pub IsMoment : ℤ → Type 0
IsMoment second = (pos 0 ≤ℤ second) × (second ≤ℤ pos 253402300799)

-- the first second of a day, whose number counts from 1970-01-01 as 0
abbrev pub start_of_day : ℤ → ℤ
start_of_day day = day *ℤ pos 86400

-- the last second of a day
abbrev pub end_of_day : ℤ → ℤ
end_of_day day = day *ℤ pos 86400 +ℤ pos 86399

-- whether the calendar has this day, in a year from -9999 to 9999
abbrev pub is_civil_day : ℤ → ℕ → ℕ → Bool
is_civil_day year month day =
    nat_le (unsigned_abs year) 9999 && nat_le 1 month && nat_le month 12 && nat_le 1 day && nat_le day
    (days_in_month year month)

-- the number of a day, counted from 1970-01-01 as 0, if the calendar has it
unfoldable pub day_number : ℤ → ℕ → ℕ → Option ℤ
day_number year month day = if is_civil_day year month day then Some (days_from_civil year month day) else None

-- the names of months, in small letters
abbrev pub month_names : List (List ℕ)
month_names =
    codes "jan" ∷ codes "feb" ∷ codes "mar" ∷ codes "apr" ∷ codes "may" ∷ codes "jun"
    ∷ codes "jul" ∷ codes "aug" ∷ codes "sep" ∷ codes "oct" ∷ codes "nov" ∷ codes "dec" ∷ []

-- the number of the month that three letters name, in either case; January is 1
unfoldable pub month_of : List ℕ → Option ℕ
month_of name = option_map suc (position (str_eq_ignore_ascii_case name) month_names)

-- the greatest number below a limit that passes
abbrev pub greatest_below : ℕ → (ℕ → Bool) → Option ℕ
greatest_below zero passes = None
greatest_below (suc n) passes = elim (passes n) [ true ↦ Some n | false ↦ greatest_below n passes ]

-- the year at a place; the year -9999 is at place 0
abbrev pub year_at : ℕ → ℤ
year_at n = pos n -ℤ pos 9999

-- the latest year from -9999 to 9999 that passes
abbrev pub latest_year : (ℤ → Bool) → Option ℤ
latest_year passes = option_map year_at (greatest_below 19999 (λ n. passes (year_at n)))

-- the year passes, and no year that passes is later
pub record IsLatestYear (passes : ℤ → Bool) (year : ℤ) : Type 0 where
  pub has : IsTrue (passes year)
  pub latest : (other : ℤ) → IsTrue (passes other) → other ≤ℤ year

-- the calendar has the year, and each day of a later year is after this day
pub record HasNoLater (day year : ℤ) : Type 0 where
  pub low : negsuc 9998 ≤ℤ year
  pub high : year ≤ℤ pos 9999
  pub later : (next : ℤ) (month date : ℕ) (number : ℤ) → year <ℤ next → day_number next month date ≡ Some number
      → day <ℤ number
