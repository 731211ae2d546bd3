-- A fault that is reported is that of the grammar, and the grammar's fault is reported: `refused_law` has both
-- directions.
use Rattle.mail_dates.proofs.PeriodReading.{refused_law}
use Rattle.mail_dates.proofs.laws.what_is_no_period_is_refused.Goals as goal

pub returns : goal.returns
returns c = refused_law
