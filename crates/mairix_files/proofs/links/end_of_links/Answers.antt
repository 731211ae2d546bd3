-- Each turn follows one more link, unless memory runs out.
use Rattle.std.proofs.Common.{arith}
use Rattle.mairix_files.proofs.FollowedLinks.{if_failed, no_more_links, one_more_link}
use Rattle.mairix_files.proofs.links.end_of_links.Goals as goal

pub returns-in_err-follow-clause-no_memory : goal.returns-in_err-follow-clause-no_memory
returns-in_err-follow-clause-no_memory g c =
    if_failed _ _ (no_more_links _ _ _ c.loop.invariant.0 _ _ _ c.loop-test.true c.loop.invariant.1 c.loop.invariant.2
    c.loop.invariant.3 c.in_err-follow.ensures.no_memory)

pub loop-preserved : goal.loop-preserved
loop-preserved g c =
    one_more_link _ _ _ _ c.loop.invariant.0 _ _ _ c.loop.invariant.1 c.loop.invariant.2 c.loop.invariant.3
    _ (grind (arith, c.if-not-branch.false)) c.in_ok-follow.ensures.followed
