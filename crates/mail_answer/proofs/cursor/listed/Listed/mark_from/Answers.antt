-- `Listed::mark_from` marks the messages whose numbers it drops.
use Rattle.mail_answer.proofs.Words.{◌+◌, WalkAhead, arith, subst, truth_at, Adds, marks_in, numbers_ahead}
use Rattle.mail_answer.proofs.CursorLaws.Lists.{cut_drops, cut_first, cut_marks, cut_numbers}
use Rattle.mail_answer.proofs.cursor.listed.Listed.mark_from.Goals as goal

pub invariant_of-self : goal.invariant_of-self
invariant_of-self c =
    cut_numbers _ _
    _
    _ c.self.invariant
    c.mark_numbers-self-inside.ensures.rest

pub returns-clause-rest : goal.returns-clause-rest
returns-clause-rest = grind (arith, cut_drops)

pub returns-clause-number : goal.returns-clause-number
returns-clause-number c =
    cut_first _ _
    _ _
    _ c.self.invariant c.mark_numbers-self-inside.ensures.rest
    c.mark_numbers-self-inside.ensures.ended

pub returns-clause-marks : goal.returns-clause-marks
returns-clause-marks c =
    subst (λ (ahead : WalkAhead). Adds (λ k. truth_at ahead.truths (c.args.start + k)) (marks_in c.args.words.now)
    (marks_in c.mark_numbers-self-inside.new.words)) c.self.view_is
    (cut_marks c.self.inside.count c.args.start (numbers_ahead c.self.inside.first c.self.inside.postings)
    (marks_in c.args.words.now) (marks_in c.mark_numbers-self-inside.new.words) c.self.invariant
    c.mark_numbers-self-inside.ensures.marks)
