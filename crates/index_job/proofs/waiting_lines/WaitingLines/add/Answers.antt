-- `WaitingLines::add` adds the words of all lines. If there is no line, there are none.
use Rattle.index_job.proofs.Words.{◌∙◌, ℕ, List, sym, ap, with_waiting}
use Rattle.index_job.proofs.JoinedLines.{none-wait}
use Rattle.index_job.proofs.waiting_lines.WaitingLines.add.Goals as goal

pub returns-then-is_empty-clause-none : goal.returns-then-is_empty-clause-none
returns-then-is_empty-clause-none c = sym c.self.view_is
    ∙ none-wait c.self.inside.text (sym c.is_empty.ensures ∙ c.if-is_empty.true)

pub returns-then-is_empty-clause-terms : goal.returns-then-is_empty-clause-terms
returns-then-is_empty-clause-terms c =
    sym (ap (λ (ws : List (List ℕ)). with_waiting ws c.args.builder.now) (returns-then-is_empty-clause-none c))
