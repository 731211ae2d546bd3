-- `add_words_of` adds all words of a folded text, because each turn puts the next one into the batch.
use Rattle.index_job.proofs.Words.{◌≡◌, ◌∙◌, ◌∷◌, ◌++◌, [], All, ap, subst, arith, All-tail, err_from_is_err_and, HasWordLength, draft_with_terms, word_terms}
use Rattle.index_job.proofs.Terms.{fails-first, waits-next}
use Rattle.index_job.proofs.folding_room.add_words_of.Goals as goal

pub loop-word-preserved : goal.loop-word-preserved
loop-word-preserved c =
    let kind = c.args.kind in
    let word = c.in-Some.word.now in
    let rest = c.next.new.self in
    let steps = c.in-Some.ensures.steps in
    let pushed = rw c.as_bytes.ensures.value at c.in_ok-push.ensures.ok in
    let i = c.loop-word.invariant in (
      i.0,
      i.1,
      All-tail HasWordLength word rest (subst (λ l. All HasWordLength l) steps i.2),
      c.push.ensures.phase,
      i.4 ∙ ap (λ l. draft_with_terms (word_terms kind c.loop-word.batch ++ word_terms kind l) c.loop-word.builder)
          steps ∙ waits-next kind c.loop-word.batch word c.push.new.self (word_terms kind rest) c.loop-word.builder
          c.push.new.builder pushed,
    )

pub returns-in_err-push-clause-terms : goal.returns-in_err-push-clause-terms
returns-in_err-push-clause-terms c = grind (arith, err_from_is_err_and, fails-first)
