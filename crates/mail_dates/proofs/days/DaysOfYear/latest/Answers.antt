-- `DaysOfYear::latest` returns the latest year that fits, because it goes down year by year from one after which none
-- fits.
use Rattle.mail_dates.proofs.Words.{◌≡◌, ℤ, negsuc, ◌≤ℤ◌, ◌<ℤ◌, true, false, of_z, to_z, w16, w32, arith, ◌∙◌, ints, to_z-of_z, day_number, days_in_by, begin_by}
use Rattle.mail_dates.proofs.LatestYear.{search_start, search_next, search_found, search_over}
use Rattle.mail_dates.proofs.days.DaysOfYear.latest.Goals as goal
use lib.Signed.{le_z}

at_least : (year : ℤ) → le_z (negsuc 9998) year ≡ true → negsuc 9998 ≤ℤ year
at_least year e = grind (arith, ints)

below : (year : ℤ) → le_z (negsuc 9998) year ≡ false → year <ℤ negsuc 9998
below year e = grind (arith, ints)

pub loop-year-init : goal.loop-year-init
loop-year-init c = grind (arith, to_z-of_z, search_start, to_z, of_z)

pub returns-then-begin_by : goal.returns-then-begin_by
returns-then-begin_by c = grind (arith, to_z, of_z, to_z-of_z, search_found, at_least)

pub loop-year-preserved : goal.loop-year-preserved
loop-year-preserved c =
    let year : ℤ = to_z w16 c.loop-year.year-bits in
    let low = at_least year c.loop-year-test.true in
    let missed : begin_by (to_z w32 (of_z w32 c.args.by)) (days_in_by day_number c.args.self year) ≡ false =
    grind arith in
    search_next _ _ _ _ c.loop-year.invariant low missed
    (let high = c.loop-year.invariant.high in omega (arith, ints))

pub returns : goal.returns
returns c = grind (arith, to_z, of_z, to_z-of_z, search_over, below)
