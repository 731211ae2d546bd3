-- `mark_all` marks the messages of all lists, list by list, and takes out those at their end.
use Rattle.mail_answer.proofs.Words.{◌≡◌, ◌<◌, ℕ, Option, Some, length, subst, arith, IfNone, WalkAhead, IsFirst, steps_left_in, marks_in}
use Rattle.mail_answer.proofs.CursorLaws.MarkedLists.{marked_on, goes_out, goes_out_steps, turn_counts, all_drops, all_first, all_marks}
use Rattle.mail_answer.proofs.cursor.marked.mark_all.Goals as goal

pub loop-place-preserved-in-Some : goal.loop-place-preserved-in-Some
loop-place-preserved-in-Some c =
    let w : WalkAhead = c.index_mut.result.now in
    let lt : c.loop-place.place < length c.loop-place.lists.items =
    omega (arith, c.loop-place-test.true, c.len.ensures, c.loop-place.lists.ok.0) in
    record {
      marked =
          marked_on c.args.start c.args.lists.now.items (marks_in c.args.words.now) c.loop-place.place
          c.loop-place.lists.items
          (marks_in c.loop-place.words) c.loop-place.least c.loop-place.invariant.marked w lt c.index_mut.ensures.value
          c.mark_from.new.self (marks_in c.mark_from.new.words) c.mark_from.ensures.rest c.mark_from.ensures.marks
          (Some c.in-Some.number)
          c.lesser_of-least.result
          (subst (IsFirst c.mark_from.new.self.truths) c.in-Some.is c.mark_from.ensures.number)
          c.lesser_of-least.ensures;
      steps = turn_counts c.loop-place.lists.items c.loop-place.place (steps_left_in c.args.lists.now.items)
          c.args.steps.now
          c.loop-place.steps c.mark_from.new.steps w c.mark_from.new.self lt c.index_mut.ensures.value
          c.loop-place.invariant.steps c.mark_from.ensures.steps;
    }

pub loop-place-preserved : goal.loop-place-preserved
loop-place-preserved c =
    let w : WalkAhead = c.index_mut.result.now in
    let lt : c.loop-place.place < length c.loop-place.lists.items =
    omega (arith, c.loop-place-test.true, c.len.ensures, c.loop-place.lists.ok.0) in
    record {
      marked =
          goes_out c.args.start c.args.lists.now.items (marks_in c.args.words.now) c.loop-place.place
          c.loop-place.lists.items
          (marks_in c.loop-place.words) c.loop-place.least c.loop-place.invariant.marked w lt c.index_mut.ensures.value
          c.mark_from.new.self (marks_in c.mark_from.new.words) c.mark_from.ensures.rest c.mark_from.ensures.marks
          c.swap_remove.result
          c.swap_remove.new.self.items c.swap_remove.ensures.value c.swap_remove.ensures.items
          (subst (IsFirst c.mark_from.new.self.truths) c.in-None.is c.mark_from.ensures.number);
      steps =
          goes_out_steps c.args.start c.args.lists.now.items (marks_in c.args.words.now) c.loop-place.place
          c.loop-place.lists.items (marks_in c.loop-place.words) c.loop-place.least c.loop-place.invariant.marked w lt
          c.index_mut.ensures.value
          c.mark_from.new.self (marks_in c.mark_from.new.words) c.mark_from.ensures.rest c.mark_from.ensures.marks
          c.swap_remove.result
          c.swap_remove.new.self.items c.swap_remove.ensures.value c.swap_remove.ensures.items
          (subst (λ (r : Option ℕ). IfNone r (c.mark_from.new.self.left ≡ 0)) c.in-None.is c.mark_from.ensures.ended)
          (steps_left_in c.args.lists.now.items) c.args.steps.now c.loop-place.steps c.mark_from.new.steps
          c.loop-place.invariant.steps c.mark_from.ensures.steps;
    }

pub returns-clause-rest : goal.returns-clause-rest
returns-clause-rest = grind (arith, all_drops)

pub returns-clause-number : goal.returns-clause-number
returns-clause-number c =
    all_first c.args.start c.args.lists.now.items (marks_in c.args.words.now) c.loop-place.place
    c.loop-place.lists.items
    (marks_in c.loop-place.words) c.loop-place.least c.loop-place.invariant.marked
    (omega (arith, c.loop-place-test.false, c.len.ensures, c.loop-place.lists.ok.0))

pub returns-clause-marks : goal.returns-clause-marks
returns-clause-marks c =
    all_marks c.args.start c.args.lists.now.items (marks_in c.args.words.now) c.loop-place.place
    c.loop-place.lists.items
    (marks_in c.loop-place.words) c.loop-place.least c.loop-place.invariant.marked
    (omega (arith, c.loop-place-test.false, c.len.ensures, c.loop-place.lists.ok.0))
