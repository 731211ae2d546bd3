-- `add_folded` adds the words of a folded text after those of the waiting lines. A fault of these is one of both.
use Rattle.index_job.proofs.Words.{err_from_is_err_and, string_bytes, words, word_terms, with_waiting}
use Rattle.index_job.proofs.Terms.{still-fails}
use Rattle.index_job.proofs.term_sink.add_folded.Goals as goal

pub returns-in_err-add-clause-terms : goal.returns-in_err-add-clause-terms
returns-in_err-add-clause-terms c =
    let p = err_from_is_err_and c.from_residual.result c.from_residual.ensures.1 in
    rw (p.1, p.2) (still-fails (word_terms c.args.kind (words (string_bytes c.args.room.now.folded)))
    (with_waiting c.args.room.now.waiting c.args.builder.now) _ c.in_err-add.ensures.terms)
