-- Each turn adds one word. With the words that are left, the draft becomes the wanted one.
use Rattle.index_job.proofs.Words.{◌≡◌, drop, IsInMessage, draft_with_terms, word_terms}
use Rattle.index_job.proofs.batch.Batch.add_prefetched.Given as goal

-- with the words that are left, the draft becomes the wanted one
abbrev pub invariant-loop-index : goal.invariant-loop-index
invariant-loop-index l = record {
  phase : IsInMessage l.builder;
  whole : draft_with_terms (word_terms l.kind l.self) l.fn.builder
      ≡ draft_with_terms (word_terms l.kind (drop l.index l.self)) l.builder;
}
