-- `flatten` makes each message a child of its root, in order, because roots come before the others.
use Rattle.mail_answer.proofs.Words.{◌<◌, length, arith}
use Rattle.mail_answer.proofs.ThreadLaws.ForestLemmas.{shorter_still, lifted_to, flat_more}
use Rattle.mail_answer.proofs.threads.forest.flatten.Goals as goal

pub loop-number-preserved : goal.loop-number-preserved
loop-number-preserved c =
    let p = c.loop-number.parents in
    let i = c.loop-number.number in
    let back = c.loop-number.invariant.shortened.back c.requires in
    let within : i < length p = omega arith in
    record {
      shortened = shorter_still _ p _ c.loop-number.invariant.shortened
          (lifted_to p _ i _ back within c.lift.ensures.value c.lift.ensures.after);
      flat = flat_more p _ i _ back within c.lift.ensures.value c.lift.ensures.after
          c.loop-number.invariant.flat;
    }
