-- The rest of the line and the separator are texts in UTF-8. The recursion ends because each member is smaller than the
-- node.
use denote.Text.{Utf8}
use denote.Shadow.{shadow}
use Rattle.worked_parts.proofs.query_lines.+after_node.Given as goal

abbrev pub decreases-after_node : goal.decreases-after_node
decreases-after_node l = goal.size-after_node l

-- the rest of the line and the separator are text
abbrev pub invariant-loop-member : goal.invariant-loop-member
invariant-loop-member l = shadow (Utf8 l.rest) × shadow (Utf8 l.separator)
