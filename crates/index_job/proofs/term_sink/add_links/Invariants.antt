-- Each turn adds one id. With the ids that are left, the draft becomes the wanted one.
use Rattle.index_job.proofs.Words.{◌≡◌, drop, map, IsInMessage, draft_with_terms, link_terms}
use Rattle.index_job.proofs.term_sink.add_links.Given as goal

-- with the ids that are left, the draft becomes the wanted one
abbrev pub invariant-loop-id : goal.invariant-loop-id
invariant-loop-id l = record {
  phase : IsInMessage l.builder;
  whole : draft_with_terms (link_terms l.ids) l.fn.builder
      ≡ draft_with_terms (link_terms (map (λ id. id.items) (drop l.id-index l.id-items))) l.builder;
}
