-- `range_of` returns the defined range, by the number of parts between dashes. The grammar's clauses follow by its
-- laws.
use Rattle.mail_dates.proofs.Words.{ℕ, List, ◌∷◌, sym, ◌∙◌, ap, day_number, range_at, range_by, range_of_parts_by, is_dash, arith}
use Rattle.mail_dates.proofs.Cuts.{split_front}
use Rattle.mail_dates.proofs.RangeReading.{range_answered, fault_answered}
use Rattle.mail_dates.proofs.range_of_days.range_of.Goals as goal

pub returns-in-None : goal.returns-in-None
unfolding range_at
returns-in-None c =
    let value = c.range_of_period.ensures
    ∙ ap (range_of_parts_by day_number c.args.now) (sym c.in-None.ensures)
    ∙ ap (range_by day_number c.args.now) c.as_bytes-text.ensures.value in
    grind (arith, range_answered, fault_answered)

pub returns-in-None-cut : goal.returns-in-None-cut
unfolding range_at
returns-in-None-cut c =
    let value = c.range_between.ensures
    ∙ ap (range_of_parts_by day_number c.args.now)
    (sym (c.in-Some.ensures ∙ ap (λ (parts : List (List ℕ)). c.in-Some.start.now ∷ parts) c.in-None-cut.ensures))
    ∙ ap (range_by day_number c.args.now) c.as_bytes-text.ensures.value in
    grind (arith, range_answered, fault_answered)

-- three or more parts have none of the forms
pub returns-in-Some-cut : goal.returns-in-Some-cut
unfolding range_at
returns-in-Some-cut c =
    let front = split_front is_dash c.in-Some-cut.field-0.1.now in
    let split = c.in-Some.ensures ∙ ap (λ (parts : List (List ℕ)). c.in-Some.start.now ∷ parts)
    (c.in-Some-cut.ensures ∙ ap (λ (parts : List (List ℕ)). c.in-Some-cut.field-0.0.now ∷ parts) front.2) in
    let value = ap (range_of_parts_by day_number c.args.now) (sym split)
    ∙ ap (range_by day_number c.args.now) c.as_bytes-text.ensures.value in
    grind (arith, range_answered, fault_answered)
