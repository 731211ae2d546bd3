-- Each turn looks at the next path above.
use Rattle.std.proofs.Common.{arith, sym}
use Rattle.mairix_files.proofs.FollowedLinks.{one_more_above}
use Rattle.mairix_files.proofs.links.is_on_device.Goals as goal

pub loop-place-preserved : goal.loop-place-preserved
loop-place-preserved g c = (
  tt,
  tt,
  one_more_above _ _ _ c.loop-place.invariant.2.0 _ _ _ _ _ _ c.loop-place.invariant.2.1
      c.loop-place.invariant.2.2 c.loop-place.invariant.2.3 c.in-Some.ensures.steps.0 c.in-Some.ensures.steps.1
      (grind (arith, c.look_at_link-answer.ensures, c.as_str.ensures))
      (sym c.if-has_device.ensures),
)
