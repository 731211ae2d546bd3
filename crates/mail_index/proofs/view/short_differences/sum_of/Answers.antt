-- `sum_of` adds up the weights of the lanes, of which each is as it should be, since the mask has no bit.
use Rattle.mail_index.proofs.Words.{◌<◌, arith}
use Rattle.std.proofs.lemmas.Simd.{dot4_Fits, sum_fits}
use Rattle.mail_words.proofs.PairLanes.{marks-or, marks-and, marks_mask, first_is, first_at_least, second_at_least}
use Rattle.mail_index.proofs.ViewLaws.LoadSums.{IsLoad, long_before, lows_fit, long_lows, seconds_fit, long_seconds, sum_small, fold_small, load_short, load_sum}
use Rattle.mail_index.proofs.view.short_differences.sum_of.Goals as goal

pub dot4 : goal.dot4
dot4 c =
    let l : IsLoad c.args.lanes c.bytes_before-before.result =
    record { long = c.fits-lanes.0; is = c.bytes_before-before.ensures } in
    (dot4_Fits _ _ (lows_fit l) tt, tt)

pub overflow_add-sum : goal.overflow_add-sum
overflow_add-sum c =
    let l : IsLoad c.args.lanes c.bytes_before-before.result =
    record { long = c.fits-lanes.0; is = c.bytes_before-before.ensures } in
    sum_fits _ 0 _ (sum_small _ (long_lows l) (lows_fit l))

pub dot4-2 : goal.dot4-2
dot4-2 c =
    let l : IsLoad c.args.lanes c.bytes_before-before.result =
    record { long = c.fits-lanes.0; is = c.bytes_before-before.ensures } in
    (dot4_Fits _ _ (seconds_fit l) tt, tt)

pub overflow_add-seconds : goal.overflow_add-seconds
overflow_add-seconds c =
    let l : IsLoad c.args.lanes c.bytes_before-before.result =
    record { long = c.fits-lanes.0; is = c.bytes_before-before.ensures } in
    sum_fits _ 0 _ (sum_small _ (long_seconds l) (seconds_fit l))

pub overflow_mul-result : goal.overflow_mul-result
overflow_mul-result c =
    let l : IsLoad c.args.lanes c.bytes_before-before.result =
    record { long = c.fits-lanes.0; is = c.bytes_before-before.ensures } in
    let few = fold_small _ _ (long_seconds l) (seconds_fit l) c.from-2.ensures in
    record { fits = omega arith }

pub overflow_add-result : goal.overflow_add-result
overflow_add-result c =
    let l : IsLoad c.args.lanes c.bytes_before-before.result =
    record { long = c.fits-lanes.0; is = c.bytes_before-before.ensures } in
    let few = fold_small _ _ (long_lows l) (lows_fit l) c.from.ensures in
    let fewer = fold_small _ _ (long_seconds l) (seconds_fit l) c.from-2.ensures in
    record { fits = omega arith }

pub returns-clause-small : goal.returns-clause-small
returns-clause-small c =
    let l : IsLoad c.args.lanes c.bytes_before-before.result =
    record { long = c.fits-lanes.0; is = c.bytes_before-before.ensures } in
    let few = fold_small _ _ (long_lows l) (lows_fit l) c.from.ensures in
    let fewer = fold_small _ _ (long_seconds l) (seconds_fit l) c.from-2.ensures in
    omega arith

pub returns-clause-sum : goal.returns-clause-sum
returns-clause-sum c =
    let l : IsLoad c.args.lanes c.bytes_before-before.result =
    record { long = c.fits-lanes.0; is = c.bytes_before-before.ensures } in
    let q = long_before l in
    let mask = marks_mask _ _ _ _ l.long q
    (marks-or (first_is l.long q 0) (marks-and (second_at_least l.long q 128) (first_at_least l.long q 128))) in (
      load_short l _ mask (omega arith),
      load_sum l _ _ c.from.ensures c.from-2.ensures,
    )
