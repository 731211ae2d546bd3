-- `year_of_day` returns a year after which all days are later than this one: the year of the day, or the last year.
use Rattle.mail_dates.proofs.Words.{◌≡◌, ℤ, of_z, to_z, w32, w64, FitsSigned, arith, ints, to_z-of_z}
use Rattle.mail_dates.proofs.CivilDays.{later_number, none_later}
use Rattle.mail_dates.proofs.calendar.year_of_day.Goals as goal

widened : (day from : ℤ) → FitsSigned w32 day → from ≡ to_z w32 (of_z w32 day) → to_z w64 (of_z w64 from) ≡ day
widened day from fits e = omega (arith, ints)

pub returns-in-Ok : goal.returns-in-Ok
returns-in-Ok c = grind (arith, widened, to_z-of_z, later_number)

pub returns-in-Err : goal.returns-in-Err
returns-in-Err c = grind (arith, none_later)
