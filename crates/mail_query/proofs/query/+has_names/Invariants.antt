-- No member so far searches names, so those that are left decide. The recursion ends because each is smaller than the
-- node.
use Rattle.mail_query.proofs.Words.{◌≡◌, drop, query_of, queries_of, members_of, kinds_inside, have_names, uses_names}
use Rattle.mail_query.proofs.query.+has_names.Given as goal

abbrev pub decreases-has_names : goal.decreases-has_names
decreases-has_names l = goal.size-has_names l

-- no member so far has names, so the node has them exactly if a member left has
abbrev pub invariant-loop-member : goal.invariant-loop-member
invariant-loop-member l = have_names (kinds_inside (members_of (queries_of (drop l.member-index l.member-items))))
    ≡ uses_names (query_of l.node)
