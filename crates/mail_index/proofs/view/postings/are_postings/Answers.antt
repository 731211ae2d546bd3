-- `are_postings` refuses only bytes that no rising numbers have, difference by difference.
use Rattle.mail_index.proofs.Words.{◌<◌, length, ap, arith, false≢true, nat_tests, shown_split}
use Rattle.mail_index.proofs.ViewLaws.PostingReadLemmas.{posted-refused, posted-front, posted-back, posted-shorter}
use Rattle.mail_index.proofs.view.postings.are_postings.Goals as goal
use Rattle.mail_index.proofs.view.postings.are_postings.Goals.{then-difference-eq0-via-then-difference-eq0, then-difference-eq0-via-else-difference-eq0+then-low-difference}

pub returns-in_default : goal.returns-in_default
returns-in_default c =
    let some : 0 < length c.loop-rest.rest.now = grind (arith, nat_tests) in (
      λ t. absurd (false≢true t),
      λ h. absurd (posted-refused _ _ _ _ (omega arith) c.split_difference.ensures.only (ap shown_split c.in_default.is)
          some (c.loop-rest.invariant.forward h.1)),
    )

pub returns-then-difference-eq0 : goal.returns-then-difference-eq0
returns-then-difference-eq0 c = (
  λ t. absurd (false≢true t),
  λ h.
      let all = c.loop-rest.invariant.forward h.1 in
      let f = posted-front _ _ _ _ _ _ (omega arith) c.in-Some.ensures.short c.in-Some.ensures.some all.1 in
      elim c.then-difference-eq0.branch [
        | then-difference-eq0-via-then-difference-eq0 w ↦ absurd (omega arith)
        | then-difference-eq0-via-else-difference-eq0+then-low-difference w ↦ absurd (omega arith)
      ],
)

pub loop-rest-smaller : goal.loop-rest-smaller
loop-rest-smaller c = posted-shorter _ _ _ c.in-Some.ensures.some

pub loop-rest-preserved : goal.loop-rest-preserved
loop-rest-preserved c = record {
  forward = λ h.
      let all = c.loop-rest.invariant.forward h in
      let f = posted-front _ _ _ _ _ _ (omega arith) c.in-Some.ensures.short c.in-Some.ensures.some all.1 in
      (f.later, f.posted);
  back = λ h. c.loop-rest.invariant.back (posted-back _ _ _ _ _ (omega arith) (omega arith) c.in-Some.ensures.some h);
  within = omega arith;
}
