-- Each turn follows one more link, which doesn't lead into the folder of processes.
use Rattle.std.proofs.Common.{arith}
use Rattle.mairix_files.proofs.FollowedLinks.{one_more_passed}
use Rattle.mairix_files.proofs.links.leads_to_processes.Goals as goal

pub loop-preserved : goal.loop-preserved
loop-preserved g c =
    one_more_passed _ _ _ _ c.loop.invariant.0 _ _ _ _ c.loop.invariant.1 c.loop.invariant.2 c.loop.invariant.3
    _ (grind (arith, c.if-not-branch.false)) c.in_ok-follow.ensures.followed
    _ c.if-is_in_processes.false (grind (arith, c.as_path.ensures, c.is_in_processes.ensures))
