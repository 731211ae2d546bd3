-- The walks of a tree return the least number from n on, each by the numbers that its members return.
use Rattle.mail_answer.proofs.Words.{◌∙◌, ◌<◌, length, get_or, arith, eq-eqb, get_or_default}
use Rattle.mail_answer.proofs.CursorLaws.Turns.{passed_drops, passed_first, passed_all}
use Rattle.mail_answer.proofs.CursorLaws.Members.{below-levels, turn_steps, turn_postings, none_counted, levels-set, dropped_more, dropped_drops, dropped_first, reached_none, reached_more, reached_drops, reached_number, ended_none, ended_drops, unvisited_more, whole_dropped, whole_reached}
use Rattle.mail_answer.proofs.cursor.walk.+least.Goals as goal

pub least_other-returns-then-ne-clause-rest : goal.least_other-returns-then-ne-clause-rest
least_other-returns-then-ne-clause-rest = grind (arith, passed_drops)

pub least_other-returns-then-ne-clause-number : goal.least_other-returns-then-ne-clause-number
least_other-returns-then-ne-clause-number t c =
    passed_first _ _ _
    _ _
    (omega (arith, c.loop-number-test.true, c.loop-number.invariant.count)) c.least_from.ensures.rest
    c.least_from.ensures.number
    (grind (arith, eq-eqb))

pub least_other-returns-clause-rest : goal.least_other-returns-clause-rest
least_other-returns-clause-rest = grind (arith, passed_drops)

pub least_other-returns-clause-number : goal.least_other-returns-clause-number
least_other-returns-clause-number = grind (arith, passed_all)

pub least_united-least_from-number-requires : goal.least_united-least_from-number-requires
least_united-least_from-number-requires = grind (arith, get_or_default, below-levels)

pub least_united-loop-member-preserved : goal.least_united-loop-member-preserved
least_united-loop-member-preserved t c =
    let old = c.args.members.now in
    let xs = c.loop-member.members in
    let i = c.loop-member.member-index in
    let w = get_or xs i c.member-item.result in
    let v = c.least_from-number.new.self in
    let lt = c.loop-member-test.true in
    let long = c.loop-member.auto.members in
    let within : i < length xs = omega (arith, lt, long) in
    let is = get_or_default xs i c.member-item.result w within in
    let was = is ∙ c.loop-member.invariant.unvisited.1 i w (omega arith) in
    record {
      unvisited = unvisited_more _ _ i v c.loop-member.invariant.unvisited;
      dropped = dropped_more _ _ _ i _ _ _ w
          v lt long was c.loop-member.invariant.dropped c.least_from-number.ensures.rest
          c.least_from-number.ensures.number c.lesser_of-least.ensures;
      steps = turn_steps _ i _ _ _ _ w v
          within is c.loop-member.invariant.steps c.least_from-number.ensures.steps;
      postings = turn_postings _ i _ _ _ _
          w v within is c.loop-member.invariant.postings c.least_from-number.ensures.postings;
      levels = levels-set _ i w v within is c.least_from-number.ensures.below ∙ c.loop-member.invariant.levels;
    }

pub least_united-returns-clause-rest : goal.least_united-returns-clause-rest
least_united-returns-clause-rest t c =
    dropped_drops _ _ _ _
    (whole_dropped _ _ _ _ _
    c.loop-member.auto.members (omega arith) c.loop-member.invariant.dropped)

pub least_united-returns-clause-number : goal.least_united-returns-clause-number
least_united-returns-clause-number t c =
    dropped_first _ _ _ _
    (whole_dropped _ _ _ _ _
    c.loop-member.auto.members (omega arith) c.loop-member.invariant.dropped)

pub reach_common-loop-member-init : goal.reach_common-loop-member-init
reach_common-loop-member-init = grind (arith, reached_none, none_counted)

pub reach_common-least_from-requires : goal.reach_common-least_from-requires
reach_common-least_from-requires = grind (arith, get_or_default, below-levels)

pub reach_common-returns-in_err-number-clause-rest : goal.reach_common-returns-in_err-number-clause-rest
reach_common-returns-in_err-number-clause-rest = grind (arith, get_or_default, ended_drops)

pub reach_common-returns-in_err-number-clause-number : goal.reach_common-returns-in_err-number-clause-number
reach_common-returns-in_err-number-clause-number = grind (arith, ended_none)

pub reach_common-returns-in_err-number-clause-steps : goal.reach_common-returns-in_err-number-clause-steps
reach_common-returns-in_err-number-clause-steps t c =
    let xs = c.loop-member.members in
    let i = c.loop-member.member-index in
    let w = get_or xs i c.member-item.result in
    let within : i < length xs = omega (arith, c.loop-member-test.true, c.loop-member.auto.members) in
    let is = get_or_default xs i c.member-item.result w within in
    turn_steps _ i _ _ _ _ w
    _ within is c.loop-member.invariant.steps c.least_from.ensures.steps

pub reach_common-returns-in_err-number-clause-postings : goal.reach_common-returns-in_err-number-clause-postings
reach_common-returns-in_err-number-clause-postings t c =
    let xs = c.loop-member.members in
    let i = c.loop-member.member-index in
    let w = get_or xs i c.member-item.result in
    let within : i < length xs = omega (arith, c.loop-member-test.true, c.loop-member.auto.members) in
    let is = get_or_default xs i c.member-item.result w within in
    turn_postings _ i _ _ _ _ w
    _ within is c.loop-member.invariant.postings c.least_from.ensures.postings

pub reach_common-returns-in_err-number-clause-below : goal.reach_common-returns-in_err-number-clause-below
reach_common-returns-in_err-number-clause-below = grind (arith, get_or_default, levels-set)

pub reach_common-loop-member-preserved : goal.reach_common-loop-member-preserved
reach_common-loop-member-preserved t c =
    let old = c.args.members.now in
    let xs = c.loop-member.members in
    let i = c.loop-member.member-index in
    let w = get_or xs i c.member-item.result in
    let v = c.least_from.new.self in
    let lt = c.loop-member-test.true in
    let long = c.loop-member.auto.members in
    let within : i < length xs = omega (arith, lt, long) in
    let is = get_or_default xs i c.member-item.result w within in
    let was = is ∙ c.loop-member.invariant.unvisited.1 i w (omega arith) in
    record {
      unvisited = unvisited_more _ _ i v c.loop-member.invariant.unvisited;
      reached = reached_more _ _ _ i _ _ w v lt long was
          c.loop-member.invariant.reached c.least_from.ensures.rest c.in_ok-number.ensures.number;
      steps = turn_steps _ i _ _ _ _ w v within
          is
          c.loop-member.invariant.steps c.least_from.ensures.steps;
      postings = turn_postings _ i _ _ _ _ w v
          within is c.loop-member.invariant.postings c.least_from.ensures.postings;
      levels = levels-set _ i w v within is c.least_from.ensures.below ∙ c.loop-member.invariant.levels;
    }

pub reach_common-returns-clause-rest : goal.reach_common-returns-clause-rest
reach_common-returns-clause-rest t c =
    let long = c.loop-member.auto.members in
    reached_drops _ _ _ _ (omega (arith, c.requires))
    (omega (arith, long, c.requires))
    (whole_reached _ _ _ _ _
    long (omega arith) c.loop-member.invariant.reached)

pub reach_common-returns-clause-number : goal.reach_common-returns-clause-number
reach_common-returns-clause-number t c =
    let long = c.loop-member.auto.members in
    reached_number _ _ _ _
    (omega (arith, long, c.requires))
    (whole_reached _ _ _ _ _
    long (omega arith) c.loop-member.invariant.reached)
