-- The days of the calendar are those that the test accepts, and later years have greater numbers.
use Rattle.mail_dates.proofs.Words.{◌≡◌, ℕ, ◌≤◌, true, Some, None, refl, ◌∙◌, arith, ℤ, pos, negsuc, ◌≤ℤ◌, ◌<ℤ◌, unsigned_abs, to_z, w8, if◌then◌else◌, nat_tests, ints, days_from_civil, days_in_month, IsDate, epoch_day, IsYmd, days_in_month_bounds, days_from_civil-day_count, day_count-lt_year, signed_arith, is_civil_day, day_number}
use Rattle.jiff_core.specs.declared.civil.date.Date.{Date}
use Rattle.jiff_core.proofs.DateLemmas.{civil}

pub record IsCivilDay (year : ℤ) (month day : ℕ) : Type 0 where
  pub year_in : unsigned_abs year ≤ 9999
  pub month_low : 1 ≤ month
  pub month_high : month ≤ 12
  pub day_low : 1 ≤ day
  pub day_high : day ≤ days_in_month year month

pub civil_parts : (year : ℤ) (month day : ℕ) → is_civil_day year month day ≡ true → IsCivilDay year month day
civil_parts year month day e = grind (arith, nat_tests)

pub civil_test : (year : ℤ) (month day : ℕ) → IsCivilDay year month day → is_civil_day year month day ≡ true
civil_test year month day h = grind (arith, nat_tests, h.year_in, h.month_low, h.month_high, h.day_low, h.day_high)

pub day_number_some : (year : ℤ) (month day : ℕ) → IsCivilDay year month day → day_number year month day
    ≡ Some (days_from_civil year month day)
unfolding day_number
day_number_some year month day h = rw (civil_test year month day h) refl

pub day_number_none : (year : ℤ) (month day : ℕ) → ¬ IsCivilDay year month day → day_number year month day ≡ None
unfolding day_number
day_number_none year month day not_civil = grind (arith, civil_parts)

-- the same limits, as the calendar's own constructor tests them
pub year_within : (year : ℤ) → unsigned_abs year ≤ 9999 → (negsuc 9998 ≤ℤ year) × (year ≤ℤ pos 9999)
year_within year h = grind (arith, ints)

within_year : (year : ℤ) → negsuc 9998 ≤ℤ year → year ≤ℤ pos 9999 → unsigned_abs year ≤ 9999
within_year year h h2 = grind (arith, ints)

pub civil_date : (year : ℤ) (month day : ℕ) → IsCivilDay year month day → IsDate year (to_z w8 month) (to_z w8 day)
civil_date year month day h =
    let long = days_in_month_bounds year month in
    let m : to_z w8 month ≡ pos month = omega (arith, ints) in
    grind (arith, to_z, ints, year_within)

pub date_civil : (year : ℤ) (month day : ℕ) → month ≤ 12 → day ≤ 31 → IsDate year (to_z w8 month) (to_z w8 day)
    → IsCivilDay year month day
date_civil year month day few short h = grind (arith, to_z, ints, within_year)

-- the number of the date with these parts
pub day_number_at : (year : ℤ) (month day : ℕ) (date : Date) (number : ℤ) → IsCivilDay year month day
    → IsYmd year (to_z w8 month) (to_z w8 day) date → number ≡ epoch_day date → Some number ≡ day_number year month day
day_number_at year month day date number h is e =
    grind (arith, day_number_some)

-- a day with a number is a day of the calendar
pub record IsNumbered (year : ℤ) (month day : ℕ) (number : ℤ) : Type 0 where
  pub civil : IsCivilDay year month day
  pub is : number ≡ days_from_civil year month day

pub numbered : (year : ℤ) (month day : ℕ) (number : ℤ) → day_number year month day ≡ Some number
    → IsNumbered year month day number
unfolding day_number
numbered year month day number e = grind (arith, civil_parts)

-- a day of a later year has a greater number
pub later_number : (date : Date) (next : ℤ) (month day : ℕ) (number : ℤ) → date.year <ℤ next → day_number next month day
    ≡ Some number → epoch_day date <ℤ number
later_number date next month day number later e =
    let n = numbered _ _ _ _ e in
    grind (arith, day_count-lt_year, signed_arith, days_from_civil-day_count)

-- no day after the year 9999 has a number
pub none_later : (next : ℤ) (month day : ℕ) (number : ℤ) → pos 9999 <ℤ next → day_number next month day ≡ Some number
    → ⊥
none_later next month day number later e =
    grind (arith, numbered)
