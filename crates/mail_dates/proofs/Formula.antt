-- Day numbers by a formula, with which long tables can be computed.
use Rattle.mail_dates.proofs.Words.{◌≡◌, ℕ, suc, ◌+◌, ◌≤◌, Option, Some, None, arith, ℤ, pos, ◌+ℤ◌, ◌-ℤ◌, unsigned_abs, nat_le, if◌then◌else◌, ints, days_from_civil, days_from_civil-day_count, signed_arith, is_civil_day, day_number}
use Rattle.jiff_core.specs.March.{march_days, march_months}
use Rattle.jiff_core.proofs.MarchLemmas.{day_count-late, day_count-early}
use Rattle.mail_dates.proofs.CivilDays.{IsCivilDay, civil_parts}

-- counted in years that begin in March, from the year -10000
abbrev march_count : ℤ → ℕ → ℕ → ℤ
march_count years month day = pos (march_days (unsigned_abs years) + march_months month + day + 59) -ℤ pos 4371953

abbrev pub march_number : ℤ → ℕ → ℕ → ℤ
march_number year month day = if nat_le month 2 then march_count (year +ℤ pos 9999) (month + 12) day
    else march_count (year +ℤ pos 10000) month day

abbrev pub number_by_formula : ℤ → ℕ → ℕ → Option ℤ
number_by_formula year month day = if is_civil_day year month day then Some (march_number year month day) else None

shifted : (year : ℤ) (k : ℕ) → unsigned_abs year ≤ k → year +ℤ pos k ≡ pos (unsigned_abs (year +ℤ pos k))
shifted year k h = grind (arith, ints)

early : (year : ℤ) (month day : ℕ) → IsCivilDay year month day → month ≤ 2 → days_from_civil year month day
    ≡ march_count (year +ℤ pos 9999) (month + 12) day
early year month day h low =
    let place : year +ℤ pos 10000 ≡ pos (suc (unsigned_abs (year +ℤ pos 9999))) =
    omega (arith, signed_arith, shifted year 9999 h.year_in) in
    omega (
      arith,
      signed_arith,
      days_from_civil-day_count,
      day_count-early year (unsigned_abs (year +ℤ pos 9999)) month day place h.month_low low h.day_low,
    )

late : (year : ℤ) (month day : ℕ) → IsCivilDay year month day → 3 ≤ month → days_from_civil year month day
    ≡ march_count (year +ℤ pos 10000) month day
late year month day h high =
    let place : year +ℤ pos 10000 ≡ pos (unsigned_abs (year +ℤ pos 10000)) =
    grind arith in
    omega (
      arith,
      signed_arith,
      days_from_civil-day_count,
      day_count-late year (unsigned_abs (year +ℤ pos 10000)) month day place high h.month_high h.day_low,
    )

march_number_is : (year : ℤ) (month day : ℕ) → IsCivilDay year month day → days_from_civil year month day
    ≡ march_number year month day
march_number_is year month day h = grind (arith, early, late)

day_number_is : (year : ℤ) (month day : ℕ) → day_number year month day ≡ number_by_formula year month day
unfolding day_number
day_number_is year month day = grind (arith, march_number_is, civil_parts)

pub day_number-formula : day_number ≡ number_by_formula
day_number-formula = grind (arith, day_number_is)
