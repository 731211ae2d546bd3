-- `root_of` finds the root of a message, because each step leads to an earlier message of its tree.
use Rattle.mail_answer.proofs.Words.{◌∙◌, ◌<◌, length, arith}
use Rattle.mail_answer.proofs.ThreadLaws.ThreadLemmas.{through}
use Rattle.mail_answer.proofs.ThreadLaws.ForestLemmas.{shorter_still, lifted_to, lifted_before, lifted_label, lifted_thread}
use Rattle.mail_answer.proofs.threads.forest.root_of.Goals as goal

pub loop-parents-preserved : goal.loop-parents-preserved
loop-parents-preserved c =
    let p = c.loop-parents.parents in
    let root = c.loop-parents.root in
    let next = c.lift-root.result in
    let back = c.loop-parents.invariant.shortened.back c.requires.back in
    let within : root < length p = omega arith in
    let step =
    lifted_to p _ _ _ back within c.lift-root.ensures.value c.lift-root.ensures.after in
    let lower = lifted_before p _ _ back within c.lift-root.ensures.value in
    let low = back root within in
    record {
      shortened = shorter_still _ p _ c.loop-parents.invariant.shortened step;
      before = omega arith;
      same = λ label labels. c.loop-parents.invariant.same label (step.labels label labels)
          ∙ lifted_label _ p _ _ back within c.lift-root.ensures.value (step.labels label labels);
      thread = λ t stays. through t _ _ _ (c.loop-parents.invariant.thread t stays)
          (lifted_thread t p _ _ back within c.lift-root.ensures.value
          (c.loop-parents.invariant.shortened.threads t stays));
    }
