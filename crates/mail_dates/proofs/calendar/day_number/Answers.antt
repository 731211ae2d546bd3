-- `day_number` returns the number of a day, because jiff accepts exactly the days of the calendar and numbers them
-- likewise.
use Rattle.mail_dates.proofs.Words.{◌≡◌, ◌∙◌, arith, rules, refl, w8, w16, w32, to_z, of_z, FitsSigned, to_z-of_z, IsDate, IsYmd, epoch_day, days_in_month_bounds}
use Rattle.mail_dates.proofs.CivilDays.{civil_date, date_civil, day_number_none, day_number_at}
use Rattle.mail_dates.proofs.calendar.day_number.Goals as goal
use Rattle.mail_dates.proofs.calendar.day_number.Goals.{then-month-gt12-via-then-month-gt12, then-month-gt12-via-else-month-gt12+then-day-gt31}

pub returns-then-month-gt12-clause-value : goal.returns-then-month-gt12-clause-value
returns-then-month-gt12-clause-value c =
    grind (
      arith,
      days_in_month_bounds,
      day_number_none,
      then-month-gt12-via-then-month-gt12,
      then-month-gt12-via-else-month-gt12+then-day-gt31,
    )

pub returns-in-Ok-clause-value : goal.returns-in-Ok-clause-value
returns-in-Ok-clause-value c =
    let year : to_z w16 (of_z w16 c.args.year) ≡ c.args.year = to_z-of_z w16 c.args.year c.ranges.year in
    let can : IsDate c.args.year (to_z w8 c.args.month) (to_z w8 c.args.day) =
    rw year at (c.in-Ok.ensures.succeeds.0 refl) in
    let is : IsYmd c.args.year (to_z w8 c.args.month) (to_z w8 c.args.day) c.in-Ok.date =
    rw year at c.in-Ok.ensures.value in
    let fits : FitsSigned w32 c.to_unix_epoch_day.result = search rules in
    let number : to_z w32 (of_z w32 c.to_unix_epoch_day.result) ≡ epoch_day c.in-Ok.date =
    grind (arith, to_z-of_z)
    in
    let civil = date_civil _ _ _ (omega arith) (omega arith) can in
    day_number_at _ _ _ c.in-Ok.date _ civil is number

pub returns-in-Err-clause-value : goal.returns-in-Err-clause-value
returns-in-Err-clause-value c = grind (arith, to_z, of_z, to_z-of_z, day_number_none, civil_date)
