-- Each walk inside a node is on a lower level, so a function that calls itself on these walks ends.
use Rattle.std.specs.Prelude.{◌≤◌, ◌+◌, max, List, [], ◌∷◌}
use Rattle.std.proofs.Common.{arith}
use denote.Param.Weighed.{most}
use Rattle.mail_answer.specs.CursorAhead.{WalkAhead, levels}
use Rattle.mail_answer.specs.Inside.CursorWalks.{ahead_of_node}
use Rattle.mail_answer.specs.declared.cursor.walk.Node.{Node}
use Rattle.mail_answer.specs.declared.cursor.walk.Node.TheVariants.{Listed, Marked, Scanned, Others, Common, United}
use Rattle.mail_answer.specs.declared.cursor.walk.Walk.TheDeep.{deep-Node}

-- each walk is below the level of all of them
pub most_le-levels : (ws : List WalkAhead) → most (λ w. w.below + 1) ws ≤ levels ws
most_le-levels [] = omega arith
most_le-levels (w ∷ ws) = omega (arith, most_le-levels ws)

-- the walks inside a node are below its level
pub children_below : (n : Node) → max (deep-Node n) 0 ≤ (ahead_of_node n).below
children_below (Listed list) = omega arith
children_below (Marked marked) = omega arith
children_below (Scanned scan) = omega arith
children_below (Others o) = omega arith
children_below (Common members) = omega (arith, most_le-levels members.items)
children_below (United members) = omega (arith, most_le-levels members.items)
