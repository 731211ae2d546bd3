-- `after_load` splits off the differences of a load, and leaves a byte that begins one.
use Rattle.mail_index.proofs.Words.{◌≤◌, length, arith, w8}
use Rattle.std.proofs.lemmas.Simd.{below_from_Fits, chunk-fits}
use Rattle.mail_index.proofs.ViewLaws.ShortDifferenceLemmas.{load_enough, load_passed}
use Rattle.mail_index.proofs.view.short_differences.after_load.Goals as goal

pub overflow_sub-result : goal.overflow_sub-result
overflow_sub-result c =
    let bytes = c.args.bytes.now in
    let long : 16 ≤ length bytes = omega arith in
    let fits = below_from_Fits w8 _ (chunk-fits _ 0 16 _ c.type_inv.bytes) in
    omega (arith, load_enough bytes long fits c.in_ok-sum.ensures.sum.0, c.in_ok-sum.ensures.sum.1)

pub returns-clause-small : goal.returns-clause-small
returns-clause-small c = omega (arith, c.in_ok-sum.ensures.small)

pub returns-clause-passed : goal.returns-clause-passed
returns-clause-passed c =
    let bytes = c.args.bytes.now in
    let long : 16 ≤ length bytes = omega arith in
    let fits = below_from_Fits w8 _ (chunk-fits _ 0 16 _ c.type_inv.bytes) in
    load_passed bytes long fits c.in_ok-sum.ensures.sum.0 _ _ (cc (c.in_ok-sum.ensures.sum.1))
    (cc (c.split_at.ensures.back))
