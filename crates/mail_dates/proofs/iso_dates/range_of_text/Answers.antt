-- `range_of_text` refuses four or more parts between dots, because the definition has no form for them.
use Rattle.mail_dates.proofs.Words.{◌≡◌, ℕ, List, ◌∷◌, None, ◌∙◌, arith, day_number, is_dot, iso_range_of_parts_by}
use Rattle.mail_dates.proofs.Cuts.{split_four}
use Rattle.mail_dates.proofs.iso_dates.range_of_text.Goals as goal

-- four or more parts have none of the forms
too_many : (since between third fourth : List ℕ) (rest : List (List ℕ)) → None
    ≡ iso_range_of_parts_by day_number (since ∷ between ∷ third ∷ fourth ∷ rest)
too_many since between third fourth rest = grind arith

pub returns-in-Some-cut : goal.returns-in-Some-cut
returns-in-Some-cut c =
    let four = split_four is_dot c.args.text.now c.in-Some.since.now c.in-Some.rest.now c.in_ok-between.between.now
    c.in_ok-between.until.now c.in-Some-cut.field-0.0.now c.in-Some-cut.field-0.1.now c.in-Some.ensures
    c.in_ok-between.ensures c.in-Some-cut.ensures in
    grind arith
