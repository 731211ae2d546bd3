-- `full_date` returns the period of its three numbers, because four digits fit into a signed year.
use Rattle.mail_dates.proofs.Words.{◌≡◌, ℕ, List, length, take, drop, Some, pos, to_z, w16, arith, ints, refl, take_rest, number_in}
use Rattle.std.specs.Prelude.{slice_range}
use Rattle.mail_dates.specs.declared.days.DaysOfYear.TheVariants as days
use Rattle.mail_dates.specs.declared.period.Period.TheVariants.{InYear}
use Rattle.mail_dates.specs.Periods.{full_date}
use Rattle.mail_dates.proofs.period.full_date.Goals as goal

-- the period of parts that can be read
read : (text : List ℕ) (y m d : ℕ) → length text ≡ 8 → Some y ≡ number_in 4 4 (take 4 text) → Some m
    ≡ number_in 2 2 (slice_range text 4 6) → Some d ≡ number_in 2 2 (drop 6 text) → Some (InYear (pos y) (days.Day m d))
    ≡ full_date text
read text y m d len e f g = rw (len, ← e, ← f, ← g) refl

pub returns-in-Some-Some-Some : goal.returns-in-Some-Some-Some
returns-in-Some-Some-Some c =
    let parts = c.in-Some-Some-Some in
    let year : to_z w16 parts.year ≡ pos parts.year = let small = parts.ensures.bound in omega (arith, ints) in
    let day : Some parts.day ≡ number_in 2 2 (drop 6 c.args.text.now) =
    rw (take_rest c.args.text.now 6) at parts.ensures''.value in
    grind arith
