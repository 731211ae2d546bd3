-- `time_of` refuses four or more parts between colons, because the definition has no form for them.
use Rattle.mail_dates.proofs.Words.{sym, ap, time_of, time_of_parts}
use Rattle.mail_dates.proofs.Cuts.{split_four}
use Rattle.mail_dates.proofs.time_of_day.time_of.Goals as goal

-- four or more parts have none of the forms
pub returns-in-Some-cut : goal.returns-in-Some-cut
unfolding time_of
returns-in-Some-cut c =
    let four = split_four _ c.args.token.now _ c.in_ok-hour.rest.now _
    c.in-Some.second.now _ c.in-Some-cut.field-0.1.now c.in_ok-hour.ensures
    c.in-Some.ensures c.in-Some-cut.ensures in
    ap time_of_parts (sym four.2)
