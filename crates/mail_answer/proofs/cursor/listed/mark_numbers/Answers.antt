-- `mark_numbers` marks number after number, up to the first that is past the window.
use Rattle.mail_answer.proofs.Words.{◌-◌, ◌≤◌, arith, length, subst, marks_in, numbers_ahead}
use Rattle.mail_answer.proofs.CursorLaws.MarkedLists.{counts_more}
use Rattle.mail_answer.proofs.CursorLaws.MarkedNumbers.{AreMarked, begun, gives_next, marked_all, marked_more, marked_past, past_window}
use Rattle.mail_answer.proofs.cursor.listed.mark_numbers.Goals as goal

pub loop-least-init : goal.loop-least-init
loop-least-init c = record {
  marked =
      begun _ _ _
      _ _ c.first_from-least.ensures.rest;
  ended = c.first_from-least.ensures.ended;
  steps = c.first_from-least.ensures.steps;
}

pub loop-least-preserved : goal.loop-least-preserved
loop-least-preserved c =
    let gave = gives_next _ _ _ _
    _ c.next-least.ensures in
    record {
      marked =
          marked_more c.args.start (numbers_ahead c.args.first c.args.after.now) (marks_in c.args.words.now)
          c.in-Some.number c.loop-least.after (marks_in c.loop-least.words)
          (subst (λ first. AreMarked c.args.start (numbers_ahead c.args.first c.args.after.now)
          (marks_in c.args.words.now) first c.loop-least.after (marks_in c.loop-least.words)) c.in-Some.is
          c.loop-least.invariant.marked)
          (marks_in c.mark_at.new.words) c.next-least.result c.next-least.new.self
          (grind (arith, c.mark_at.ensures.within, c.if-not-mark_at.false)) c.mark_at.ensures.marks gave.0;
      ended = gave.1;
      steps = counts_more _ _ _
          _ _ _ c.loop-least.invariant.steps gave.2;
    }

pub returns-then-not-mark_at-clause-marks : goal.returns-then-not-mark_at-clause-marks
returns-then-not-mark_at-clause-marks c =
    let past : length (marks_in c.loop-least.words) ≤ c.in-Some.number - c.args.start =
    grind (arith, c.mark_at.ensures.within, c.if-not-mark_at.true) in
    marked_all c.args.start (numbers_ahead c.args.first c.args.after.now) (marks_in c.args.words.now)
    c.loop-least.least c.loop-least.after (marks_in c.mark_at.new.words)
    (marked_past c.args.start (numbers_ahead c.args.first c.args.after.now) (marks_in c.args.words.now)
    c.loop-least.least c.loop-least.after (marks_in c.loop-least.words) (marks_in c.mark_at.new.words)
    (c.in-Some.number - c.args.start) c.loop-least.invariant.marked c.mark_at.ensures.marks past)
    (past_window c.args.start (numbers_ahead c.args.first c.args.after.now) (marks_in c.args.words.now)
    c.loop-least.least c.loop-least.after (marks_in c.loop-least.words) c.loop-least.invariant.marked
    c.in-Some.number c.in-Some.is past)
