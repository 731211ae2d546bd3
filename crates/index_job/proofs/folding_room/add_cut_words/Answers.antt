-- `add_cut_words` adds the words that the lengths cut off the bytes, because each turn cuts off the next one.
use Rattle.index_job.proofs.Words.{◌≡◌, ◌∙◌, ◌∷◌, ◌++◌, ◌+◌, ℕ, List, arith, drop, get_or, sym, ap, ap₂, subst, AllByRecursion, err_from_is_err_and, draft_with_terms, parts_of_lengths, HasTermLength, word_terms}
use Rattle.index_job.proofs.FoldedWords.{next-cut, next-sum}
use Rattle.index_job.proofs.Terms.{fails-first, waits-next}
use Rattle.index_job.proofs.folding_room.add_cut_words.Goals as goal

pub returns-in_err-push-clause-terms : goal.returns-in_err-push-clause-terms
returns-in_err-push-clause-terms c = grind (arith, err_from_is_err_and, fails-first)

pub loop-length-preserved : goal.loop-length-preserved
loop-length-preserved c =
    let kind = c.args.kind in
    let lengths = c.args.lengths.now in
    let i = c.loop-length.length-index in
    let rest = c.loop-length.rest.now in
    let n = get_or lengths i 0 in
    let word = c.split_at.result.0.now in
    let after = c.split_at.result.1.now in
    let left = parts_of_lengths (drop (i + 1) lengths) after in
    let next = next-cut _ i rest c.loop-length-test.true
    ∙ ap₂ (λ (w b : List ℕ). w ∷ parts_of_lengths (drop (i + 1) lengths) b) (sym c.split_at.ensures.front)
    (sym c.split_at.ensures.back) in
    record {
      phase = c.push.ensures.phase;
      within = omega (arith, next-sum);
      sizes = (subst (AllByRecursion HasTermLength) next c.loop-length.invariant.sizes).1;
      whole = c.loop-length.invariant.whole ∙ ap
          (λ (l : List (List ℕ)). draft_with_terms (word_terms kind c.loop-length.batch ++ word_terms kind l)
          c.loop-length.builder) next ∙ waits-next kind c.loop-length.batch word c.push.new.self (word_terms kind left)
          c.loop-length.builder c.push.new.builder c.in_ok-push.ensures.ok;
    }
