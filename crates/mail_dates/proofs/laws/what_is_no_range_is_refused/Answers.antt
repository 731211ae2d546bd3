-- A fault that is reported is that of the grammar, and the grammar's fault is reported: `fault_law` has both
-- directions.
use Rattle.mail_dates.proofs.RangeReading.{fault_law}
use Rattle.mail_dates.proofs.laws.what_is_no_range_is_refused.Goals as goal

pub returns : goal.returns
returns c = λ text now. fault_law _ _
