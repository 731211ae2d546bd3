-- `add_links` adds id by id, so an id that can't be added means that not all can be added.
use Rattle.index_job.proofs.Words.{◌≡◌, ◌∙◌, ◌∷◌, ◌+◌, arith, drop, map, sym, ap, subst, err_from_is_err_and, LinkId, Draft, draft_with_terms, IsFaultOfAdding, link_terms}
use Rattle.index_job.proofs.Terms.{add-fails, next-link}
use Rattle.index_job.proofs.term_sink.add_links.Goals as goal

pub returns-in_err-add-clause-terms : goal.returns-in_err-add-clause-terms
returns-in_err-add-clause-terms c =
    let id = c.deref.result.now in
    let ids = c.as_slice-id-items.result.now in
    let i = c.loop-id.id-index in
    let now : Draft = c.loop-id.builder in
    let fault = c.in_err-add.field-0.0 in
    let p = err_from_is_err_and c.from_residual.result c.from_residual.ensures.1 in
    let next = next-link ids i c.id-item.result id (omega arith, c.id-item.is) c.deref.ensures.value in
    let whole : draft_with_terms (link_terms c.args.ids.now) c.args.builder.now
    ≡ draft_with_terms ((LinkId, id) ∷ link_terms (map (λ id. id.items) (drop (i + 1) ids))) now =
    c.loop-id.invariant.whole ∙ ap (λ l. draft_with_terms l now) next in
    rw (p.1, p.2) (subst (λ (d : Draft). IsFaultOfAdding d fault) (sym whole)
    (add-fails LinkId id (link_terms (map (λ id. id.items) (drop (i + 1) ids))) now fault
    c.in_err-add.ensures.gives.0))
