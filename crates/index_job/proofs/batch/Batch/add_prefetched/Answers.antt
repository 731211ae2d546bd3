-- `Batch::add_prefetched` adds word by word, so a word that can't be added means that not all can be added.
use Rattle.index_job.proofs.Words.{◌≡◌, ◌∙◌, [], ◌∷◌, ◌+◌, ℕ, List, Bor, arith, drop, get_or, sym, ap, subst, err_from_is_err_and, Text, Draft, draft_with_terms, IsFaultOfAdding, word_terms}
use Rattle.index_job.proofs.Terms.{add-fails, next-waiting, waiting-length}
use Rattle.index_job.proofs.batch.Batch.add_prefetched.Goals as goal

abbrev nothing : Bor (List ℕ)
nothing = record { ref_ptr = (0, 0); now = [] }

pub add_prefetched-requires-clause-some : goal.add_prefetched-requires-clause-some
add_prefetched-requires-clause-some c = grind (arith, waiting-length)

pub add_prefetched-requires-clause-short : goal.add_prefetched-requires-clause-short
add_prefetched-requires-clause-short c = grind (arith, waiting-length)

pub returns-in_err-add_prefetched-clause-terms : goal.returns-in_err-add_prefetched-clause-terms
returns-in_err-add_prefetched-clause-terms c =
    let kind = c.args.kind in
    let i = c.loop-index.index in
    let word : List ℕ = (get_or c.self.inside.words i nothing).now in
    let now : Draft = c.loop-index.builder in
    let fault = c.in_err-add_prefetched.field-0.0 in
    let rest = word_terms kind (drop (i + 1) c.args.self.now) in
    let p = err_from_is_err_and c.from_residual.result c.from_residual.ensures.1 in
    let whole : draft_with_terms (word_terms kind c.args.self.now) c.args.builder.now
    ≡ draft_with_terms ((Text kind, word) ∷ rest) now =
    c.loop-index.invariant.whole ∙ ap (λ l. draft_with_terms l now)
    (next-waiting kind c.self.inside.words c.self.inside.count i nothing c.args.self.now c.self.view_is
    c.loop-index-test.true (omega arith)) in
    rw (p.1, p.2) (subst (λ (d : Draft). IsFaultOfAdding d fault) (sym whole)
    (add-fails (Text kind) word rest now fault c.in_err-add_prefetched.ensures.gives.0))

pub loop-index-preserved : goal.loop-index-preserved
loop-index-preserved c =
    let kind = c.args.kind in
    let i = c.loop-index.index in
    let word = (get_or c.self.inside.words i nothing).now in
    let now = c.loop-index.builder in
    let rest = word_terms kind (drop (i + 1) c.args.self.now) in
    record {
      phase = rw c.in_ok-add_prefetched.ensures.gives.2 c.loop-index.invariant.phase;
      whole = c.loop-index.invariant.whole ∙ ap (λ l. draft_with_terms l now)
          (next-waiting _ _ _ i nothing _ c.self.view_is c.loop-index-test.true (omega arith))
          ∙ ap (draft_with_terms rest) (sym c.in_ok-add_prefetched.ensures.gives.2);
    }

pub loop-index-init : goal.loop-index-init
loop-index-init c = grind arith
