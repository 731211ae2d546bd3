-- What the members have passed so far is what the node drops; the calls end, because members are on lower levels.
use Rattle.mail_answer.proofs.Words.{◌-◌, ◌^◌, ◌≡◌, ◌+◌, ◌*◌, ◌<◌, length, take, CountsPostings, Spends, common, steps_left_in, postings_in, levels}
use Rattle.mail_answer.specs.Inside.CursorWalks.{ahead_of_node}
use Rattle.mail_answer.proofs.CursorLaws.Turns.{HasPassed}
use Rattle.mail_answer.proofs.CursorLaws.Members.{Unvisited, HaveDropped, HaveReached, HasRisen}
use Rattle.mail_answer.proofs.cursor.walk.+least.Given as goal

abbrev pub invariant-least_common-loop-reached : goal.invariant-least_common-loop-reached
invariant-least_common-loop-reached l = record {
  some : 0 < length l.members;
  risen : HasRisen l.n (common l.initial.members) l.number (common l.members);
  steps : Spends (steps_left_in l.initial.members) (steps_left_in l.members) l.initial.steps l.steps;
  postings : CountsPostings (postings_in l.initial.members) (postings_in l.members) l.initial.steps l.steps;
  levels : levels l.members ≡ levels l.initial.members;
}

abbrev pub decreases-least_common-loop-reached : goal.decreases-least_common-loop-reached
decreases-least_common-loop-reached l = 2 ^ 32 - l.number

abbrev pub invariant-least_other-loop-number : goal.invariant-least_other-loop-number
invariant-least_other-loop-number l = record {
  count : l.walk.count ≡ l.initial.walk.count;
  low : l.walk.low ≡ l.initial.walk.low;
  below : l.walk.inner.value.below ≡ l.initial.walk.inner.value.below;
  steps : Spends l.initial.walk.inner.value.left l.walk.inner.value.left l.initial.steps l.steps;
  postings : CountsPostings l.initial.walk.inner.value.postings l.walk.inner.value.postings l.initial.steps l.steps;
  passed : HasPassed l.n l.initial.walk.low l.initial.walk.inner.value.truths l.number l.walk.inner.value.truths;
}

abbrev pub decreases-least_other-loop-number : goal.decreases-least_other-loop-number
decreases-least_other-loop-number l = l.count - l.number

abbrev pub invariant-least_united-loop-member : goal.invariant-least_united-loop-member
invariant-least_united-loop-member l = record {
  unvisited : Unvisited l.initial.members l.members l.member-index;
  dropped : HaveDropped l.n (take l.member-index l.initial.members) (take l.member-index l.members) l.least;
  steps : Spends (steps_left_in l.initial.members) (steps_left_in l.members) l.initial.steps l.steps;
  postings : CountsPostings (postings_in l.initial.members) (postings_in l.members) l.initial.steps l.steps;
  levels : levels l.members ≡ levels l.initial.members;
}

abbrev pub invariant-reach_common-loop-member : goal.invariant-reach_common-loop-member
invariant-reach_common-loop-member l = record {
  unvisited : Unvisited l.initial.members l.members l.member-index;
  reached : HaveReached l.n (take l.member-index l.initial.members) (take l.member-index l.members) l.number;
  steps : Spends (steps_left_in l.initial.members) (steps_left_in l.members) l.initial.steps l.steps;
  postings : CountsPostings (postings_in l.initial.members) (postings_in l.members) l.initial.steps l.steps;
  levels : levels l.members ≡ levels l.initial.members;
}

abbrev pub decreases-Walk::least_from : goal.decreases-Walk::least_from
decreases-Walk::least_from l = 4 * l.self.now.below + 3

abbrev pub decreases-Node::least_from : goal.decreases-Node::least_from
decreases-Node::least_from l = 4 * (ahead_of_node l.self.now).below + 2

abbrev pub decreases-least_other : goal.decreases-least_other
decreases-least_other l = 4 * l.walk.now.inner.value.below + 4

abbrev pub decreases-least_common : goal.decreases-least_common
decreases-least_common l = 4 * levels l.members.now + 1

abbrev pub decreases-reach_common : goal.decreases-reach_common
decreases-reach_common l = 4 * levels l.members.now

abbrev pub decreases-least_united : goal.decreases-least_united
decreases-least_united l = 4 * levels l.members.now + 1
