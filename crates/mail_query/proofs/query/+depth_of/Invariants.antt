-- The node's depth is one more than that of its deepest member, so far or left. The recursion ends because each member
-- is smaller than the node.
use Rattle.mail_query.proofs.Words.{◌≡◌, suc, max, drop, query_of, queries_of, members_of, depth, deepest}
use Rattle.mail_query.proofs.query.+depth_of.Given as goal

abbrev pub decreases-depth_of : goal.decreases-depth_of
decreases-depth_of l = goal.size-depth_of l

-- the deepest of the members so far and those left is one level less deep than the node
abbrev pub invariant-loop-member : goal.invariant-loop-member
invariant-loop-member l =
    suc (max l.deepest (deepest (members_of (queries_of (drop l.member-index l.member-items)))))
    ≡ depth (query_of l.node)
