-- A text has at most one form, because the forms differ in their digits and other bytes; `one_form` takes two at a
-- time.
use Rattle.mail_dates.proofs.PeriodReading.{one_form}
use Rattle.mail_dates.proofs.laws.forms_of_periods_exclude_one_another.Goals as goal

pub returns : goal.returns
returns c = one_form
