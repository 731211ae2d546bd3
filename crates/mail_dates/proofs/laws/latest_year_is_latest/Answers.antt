-- The year that is found is the latest one that fits, and the latest one is found: `latest_year_law` has both
-- directions.
use Rattle.mail_dates.proofs.LatestYear.{latest_year_law}
use Rattle.mail_dates.proofs.laws.latest_year_is_latest.Goals as goal

pub returns : goal.returns
returns c = latest_year_law
