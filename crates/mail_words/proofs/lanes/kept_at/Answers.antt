-- `kept_at` finds the first byte at which the loads stop, by the lowest bit of their mask.
use Rattle.mail_words.proofs.PairLanes.{stops_at, length-stops_at, first_bit, run_within, run_passed}
use Rattle.mail_words.proofs.lanes.kept_at.Goals as goal

pub returns-clause-within : goal.returns-clause-within
returns-clause-within c =
    let bytes = c.args.bytes.now in
    let at = c.args.at in
    run_within bytes at c.requires _ (first_bit (stops_at bytes at c.requires) _ _ (length-stops_at bytes at c.requires)
    c.stops_in.ensures c.first_set.ensures)

pub returns-clause-passed : goal.returns-clause-passed
returns-clause-passed c =
    let bytes = c.args.bytes.now in
    let at = c.args.at in
    run_passed bytes at c.requires _ (first_bit (stops_at bytes at c.requires) _ _ (length-stops_at bytes at c.requires)
    c.stops_in.ensures c.first_set.ensures)
