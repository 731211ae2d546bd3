-- `date_of_parts` returns the second that the parts say, because each step of its sum fits into 64 bits.
use Rattle.mail_dates.proofs.Words.{◌≡◌, ◌<◌, ◌^◌, ℕ, ℤ, pos, ◌+ℤ◌, ◌-ℤ◌, ◌*ℤ◌, of_z, to_z, w16, w32, w64, FitsSigned, arith, refl, ◌∙◌, List, Some, ints, IsEpochDay, day_number, month_of, start_of_day, number_in, year_of, time_of, date_of_parts_by}
use Rattle.mail_dates.proofs.header_date.date_of_parts.Goals as goal

-- the date of parts that can be read
read : (day month year time : List ℕ) (offset : ℤ) (d m y s : ℕ) (date : ℤ) → Some d ≡ number_in 1 2 day → Some m
    ≡ month_of month → Some y ≡ year_of year → Some date ≡ day_number (pos y) m d → Some s ≡ time_of time
    → date_of_parts_by day_number day month year time offset ≡ Some ((start_of_day date +ℤ pos s) -ℤ offset)
read day month year time offset d m y s date e f g h k = rw (← e, ← f, ← g, ← h, ← k) refl

-- each step fits into 64 bits
fits : (date offset first second third : ℤ) (s : ℕ) → IsEpochDay date → s < 2 ^ 32 → FitsSigned w32 offset → first
    ≡ to_z w32 (of_z w32 date) → second ≡ pos s → third ≡ to_z w32 (of_z w32 offset)
    → to_z w64 (of_z w64 (to_z w64 (of_z w64
    (to_z w64 (of_z w64 (to_z w64 (of_z w64 first) *ℤ pos 86400)) +ℤ to_z w64 (of_z w64 second))) -ℤ to_z w64
    (of_z w64 third))) ≡ (start_of_day date +ℤ pos s) -ℤ offset
fits date offset first second third s h small f a b d = omega (arith, ints)

pub returns-in_ok-date-in-Some-Some-Some-Some : goal.returns-in_ok-date-in-Some-Some-Some-Some
returns-in_ok-date-in-Some-Some-Some-Some c =
    let parts = c.in-Some-Some-Some-Some in
    let found = c.in_ok-date-in-Some-Some-Some-Some in
    let year : to_z w16 parts.year ≡ pos parts.year = grind (arith, ints) in
    grind (arith, fits, read)
