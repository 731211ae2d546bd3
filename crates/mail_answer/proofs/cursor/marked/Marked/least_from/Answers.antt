-- `Marked::least_from` returns the least number from n on: the first mark, or the first number of a new window.
use Rattle.mail_answer.proofs.Words.{ℕ, List, Some, None, subst, arith, IsFirstMark, marks_in}
use Rattle.mail_answer.proofs.CursorLaws.MarkedLists.{found_drops, found_first, windowed_drops, windowed_first}
use Rattle.mail_answer.proofs.cursor.marked.Marked.least_from.Goals as goal

pub returns-in-Some-clause-rest : goal.returns-in-Some-clause-rest
returns-in-Some-clause-rest = grind (arith, found_drops)

pub returns-in-Some-clause-number : goal.returns-in-Some-clause-number
returns-in-Some-clause-number c =
    found_first c.args.n c.self.inside.low c.max-self-inside.result c.self.inside.start (marks_in c.self.inside.words)
    c.self.inside.lists.items c.self.inside.ahead c.self.invariant c.max-self-inside.ensures c.in-Some.number
    (subst (λ (ws : List ℕ). IsFirstMark c.self.inside.start c.max-self-inside.result (marks_in ws)
    (Some c.in-Some.number))
    c.as_slice.ensures c.in-Some.ensures)

pub returns-clause-rest : goal.returns-clause-rest
returns-clause-rest = grind (arith, windowed_drops)

pub returns-clause-number : goal.returns-clause-number
returns-clause-number c =
    windowed_first c.args.n c.self.inside.low c.max-self-inside.result c.self.inside.start
    (marks_in c.self.inside.words)
    c.self.inside.lists.items c.self.inside.ahead c.self.invariant c.max-self-inside.ensures
    c.begin_window.new.start (marks_in c.begin_window.new.words) c.begin_window.new.lists.items
    (subst (λ (ws : List ℕ). IsFirstMark c.self.inside.start c.max-self-inside.result (marks_in ws) None)
    c.as_slice.ensures
    c.in_default.ensures) c.begin_window.ensures.rest c.begin_window.result c.begin_window.ensures.number
