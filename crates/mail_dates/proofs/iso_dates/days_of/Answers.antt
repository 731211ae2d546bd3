-- `days_of` refuses four or more parts between dashes, because the definition has no form for them.
use Rattle.mail_dates.proofs.Words.{sym, ap, day_number, iso_days_by, iso_parts_by}
use Rattle.mail_dates.proofs.Cuts.{split_four}
use Rattle.mail_dates.proofs.iso_dates.days_of.Goals as goal

-- four or more parts have none of the forms
pub returns-in-Some-cut : goal.returns-in-Some-cut
unfolding iso_days_by
returns-in-Some-cut c =
    let four = split_four _ c.args.text.now _ c.in_ok-year.rest.now _
    c.in-Some.day.now _ c.in-Some-cut.field-0.1.now c.in_ok-year.ensures c.in-Some.ensures
    c.in-Some-cut.ensures in
    ap (iso_parts_by day_number) (sym four.2)
