-- `are_lists` decides for the directory what it decides for the rest after each list.
use Rattle.std.proofs.Common.{◌≡◌, arith, true, false}
use Rattle.mail_index.proofs.ViewLaws.ListWalk.{lists_step, lists_stop, list_is}
use Rattle.mail_index.proofs.view.posting_walk.are_lists.Goals as goal

pub returns-then-not-are_postings : goal.returns-then-not-are_postings
returns-then-not-are_postings c = (
  λ h. absurd (let g = h in cc),
  λ q. absurd (lists_stop _ _ _ _ _ _ _ _ c.loop-number-test.true c.loop-number.invariant.same
      (list_is _ _ c.loop-number.rest.now _ _ _ c.part.ensures c.u64_at-place.ensures c.end_before-end.ensures
      c.split_at.ensures.back) c.are_postings.ensures c.if-not-are_postings.true q),
)

pub loop-number-preserved : goal.loop-number-preserved
loop-number-preserved c = record {
  left = omega arith;
  same = lists_step _ _ _ _ _ _ _ _ _ c.loop-number-test.true c.loop-number.invariant.same c.split_at.ensures.back
      (list_is _ _ c.loop-number.rest.now _ _ _ c.part.ensures c.u64_at-place.ensures c.end_before-end.ensures
      c.split_at.ensures.back) c.are_postings.ensures c.if-not-are_postings.false;
}
