-- The second that a Date field names fits in 64 bits.
use Rattle.index_job.proofs.Words.{◌≡◌, ℕ, ◌+◌, ◌*◌, ◌≤◌, ℤ, pos, neg_ℤ, ◌+ℤ◌, ◌-ℤ◌, Bool, ◌&&◌, ◌==◌, List, [], ◌∷◌, Option, Some, None, IfSome, FitsSigned, w64, arith, AllByRecursion, find, slice_split, option_map_or, bytes_eq, str_to_ascii_lowercase, leb-true, date_in_field}
use Rattle.std.specs.Option.{option_map}
use Rattle.jiff_core.specs.Calendar.{IsEpochDay, IsWithin, days_from_civil}
use Rattle.jiff_core.proofs.CalendarLemmas.{days_from_civil-day_count, day_count_bounds}
use Rattle.jiff_core.proofs.SignedLemmas.{signed_arith, fits_between}
use Rattle.mail_dates.specs.Calendar.{day_number, month_of, start_of_day}
use Rattle.mail_dates.specs.Numbers.{number_in, ◌>>=◌}
use Rattle.mail_dates.specs.HeaderDates.{zones, hours_west, numeric_offset, offset_of, zone_offset, second_of_day, time_by, time_of_parts, is_colon, time_of, year_of, date_of_parts_by, date_of_tokens_by, date_of, date_tokens, without_comments, without_day_name}
use Rattle.mail_dates.proofs.CivilDays.{IsCivilDay, numbered, year_within}

-- if the condition is true of all values, it is true of the result
bound : {A B : Type 0} (Q : A → Type 0) (P : B → Type 0) (o : Option A) (f : A → Option B) → IfSome o Q
    → ((a : A) → Q a → IfSome (f a) P) → IfSome (o >>= f) P
bound Q P o f h h2 = grind arith

any-of : {A : Type 0} (o : Option A) → IfSome o (λ _. Unit {0})
any-of o = grind arith

-- ---- the zone

-- less than a day east or west
abbrev IsOffset : ℤ → Type 0
IsOffset z = IsWithin 86400 z

east : (o : Option ℕ) → IfSome o (λ n. n ≤ 86400) → IfSome (option_map pos o) IsOffset
east o h = grind (arith, signed_arith)

west : (o : Option ℕ) → IfSome o (λ n. n ≤ 86400) → IfSome (option_map (λ n. neg_ℤ (pos n)) o) IsOffset
west o h = grind (arith, signed_arith)

numeric_offset-small : (token : List ℕ) → IfSome (numeric_offset token) IsOffset
numeric_offset-small [] = tt
numeric_offset-small (sign ∷ digits) = grind arith

found-small : (p : List ℕ × ℕ → Bool) (zs : List (List ℕ × ℕ)) → AllByRecursion (λ z. z.1 ≤ 24) zs
    → option_map_or (λ (z : List ℕ × ℕ). z.1) (find p zs) 0 ≤ 24
found-small p [] all = omega arith
found-small p (z ∷ zs) all = grind (arith, found-small p zs all.1)

zones-small : AllByRecursion (λ z. z.1 ≤ 24) zones
zones-small = grind arith

hours_west-small : (token : List ℕ) → hours_west token ≤ 24
unfolding hours_west
hours_west-small [] = omega arith
hours_west-small (a ∷ []) = omega arith
hours_west-small (a ∷ b ∷ []) = omega arith
hours_west-small (a ∷ b ∷ c ∷ []) = found-small (λ zone. bytes_eq zone.0 (str_to_ascii_lowercase (a ∷ b ∷ c ∷ [])))
    zones zones-small
hours_west-small (a ∷ b ∷ c ∷ d ∷ rest) = omega arith

offset_of-small : (token : List ℕ) → IsOffset (offset_of token)
unfolding offset_of
offset_of-small token = grind (arith, hours_west-small, numeric_offset, numeric_offset-small)

zone_offset-small : (rest : List (List ℕ)) → IsOffset (zone_offset rest)
zone_offset-small [] = omega (arith, signed_arith)
zone_offset-small (token ∷ rest) = offset_of-small _

-- ---- the time of day

second_of_day-small : (hour minute second : ℕ) → IfSome (second_of_day hour minute second) (λ n. n ≤ 86400)
second_of_day-small hour minute second = grind (arith, leb-true)

time_by-small : (hour minute : List ℕ) (second : Option ℕ) → IfSome (time_by hour minute second) (λ n. n ≤ 86400)
time_by-small _ _ _ = grind (arith, bound, any-of, second_of_day-small)

time_of_parts-small : (parts : List (List ℕ)) → IfSome (time_of_parts parts) (λ n. n ≤ 86400)
time_of_parts-small _ = grind (arith, time_by-small)

time_of-small : (token : List ℕ) → IfSome (time_of token) (λ n. n ≤ 86400)
unfolding time_of
time_of-small token = time_of_parts-small (slice_split is_colon token)

-- ---- the date

civil-small : (year : ℤ) (month day : ℕ) → IsCivilDay year month day → IsEpochDay (days_from_civil year month day)
civil-small year month day h = omega (
  arith,
  signed_arith,
  days_from_civil-day_count,
  day_count_bounds year month day (
    year_within _ h.year_in,
    (h.month_low, h.month_high),
    (h.day_low, h.day_high),
  ),
)

day_number-small : (year : ℤ) (month day : ℕ) → IfSome (day_number year month day) IsEpochDay
day_number-small year month day = grind (arith, numbered, civil-small)

-- no sum leaves 64 bits
fits : (date offset : ℤ) (second : ℕ) → IsEpochDay date → second ≤ 86400 → IsOffset offset
    → FitsSigned w64 ((start_of_day date +ℤ pos second) -ℤ offset)
fits _ _ _ day few small = fits_between w64 _ (omega (arith, signed_arith))

parts-fit : (day month year time : List ℕ) (offset : ℤ) → IsOffset offset
    → IfSome (date_of_parts_by day_number day month year time offset) (FitsSigned w64)
parts-fit day month year time offset small =
    bound (λ _. Unit {0}) (FitsSigned w64) (number_in 1 2 day) _ (any-of (number_in 1 2 day))
    (λ d _. bound (λ _. Unit {0}) (FitsSigned w64) (month_of month) _ (any-of (month_of month))
    (λ m _. bound (λ _. Unit {0}) (FitsSigned w64) (year_of year) _ (any-of (year_of year))
    (λ y _. bound IsEpochDay (FitsSigned w64) (day_number (pos y) m d) _ (day_number-small (pos y) m d)
    (λ date is. bound (λ n. n ≤ 86400) (FitsSigned w64) (time_of time) _ (time_of-small time)
    (λ second few. fits _ _ _ is few small)))))

tokens-fit : (ts : List (List ℕ)) → IfSome (date_of_tokens_by day_number ts) (FitsSigned w64)
tokens-fit _ = grind (arith, parts-fit, zone_offset-small)

date-fits : (text : List ℕ) → IfSome (date_of text) (FitsSigned w64)
unfolding date_of
date-fits text = tokens-fit (without_day_name (date_tokens (without_comments text)))

pub told-fits : (text : Option (List ℕ)) → IfSome (date_in_field text) (FitsSigned w64)
told-fits None = tt
told-fits (Some value) = date-fits _
