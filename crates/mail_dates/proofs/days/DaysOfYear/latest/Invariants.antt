-- No year after this one fits. The loop ends because each turn goes down by one year, and the calendar has a first one.
use Rattle.mail_dates.proofs.LatestYear.{place, IsSearch}
use Rattle.mail_dates.proofs.days.DaysOfYear.latest.Given as goal

abbrev pub invariant-loop-year : goal.invariant-loop-year
invariant-loop-year l = IsSearch l.self l.by l.year

abbrev pub decreases-loop-year : goal.decreases-loop-year
decreases-loop-year l = place l.year
