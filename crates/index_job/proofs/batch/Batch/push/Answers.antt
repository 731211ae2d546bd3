-- `Batch::push` adds one word to those of batch and builder: a word that the message has adds nothing, and a full batch
-- goes first.
use Rattle.std.proofs.Common.{arith}
use Rattle.index_job.proofs.Words.{◌∙◌, [], ◌∷◌, ◌++◌, ℕ, List, sym, ap, draft_with_terms, word_terms}
use Rattle.index_job.proofs.Terms.{added-first, word-had}
use Rattle.index_job.proofs.batch.Batch.push.Goals.{then-is_full+in_ok-add, else-is_full}
use Rattle.index_job.proofs.batch.Batch.push.Goals as goal

pub returns-clause-ok : goal.returns-clause-ok
returns-clause-ok c =
    let kind = c.args.kind in
    let old = c.args.self.now in
    let word = c.args.word.now in
    let before = c.args.builder.now in
    elim c.if-is_full.branch [
      | then-is_full+in_ok-add w ↦ added-first _ old _ _ _ before _ (w.builder-is ∙ w.in_ok-add.ensures.terms)
          (w.self-is ∙ w.in_ok-add.ensures.none) c.wait.ensures
      | else-is_full w ↦ ap (λ (l : List (List ℕ)). draft_with_terms (word_terms kind l) before)
          (sym (c.wait.ensures ∙ ap (λ (l : List (List ℕ)). l ++ word ∷ []) w.self-is))
          ∙ ap (draft_with_terms (word_terms kind c.wait.new.self)) (sym w.builder-is)
    ]

pub returns-then-has_recent-clause-ok : goal.returns-then-has_recent-clause-ok
returns-then-has_recent-clause-ok c = word-had c.args.kind c.args.self.now c.args.word.now c.args.builder.now
    (grind arith)
