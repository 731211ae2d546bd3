-- `WaitingLines::push` keeps the words of the line after those of the lines before it, or adds both in this order.
use Rattle.index_job.proofs.Words.{arith, err_from_is_err_and, map-append, words, word_terms, with_waiting}
use Rattle.index_job.proofs.Terms.{joined, still-fails}
use Rattle.mail_words.specs.declared.kind.TextKind.TheVariants.{Body}
use Rattle.index_job.proofs.waiting_lines.WaitingLines.push.Goals as goal

pub returns-then-len-line-lt-MOST_BYTES-clause-terms : goal.returns-then-len-line-lt-MOST_BYTES-clause-terms
returns-then-len-line-lt-MOST_BYTES-clause-terms c = grind (arith, joined, map-append)

pub returns-in_err-add-clause-terms : goal.returns-in_err-add-clause-terms
returns-in_err-add-clause-terms c =
    let p = err_from_is_err_and c.from_residual-in_err-add.result c.from_residual-in_err-add.ensures.1 in
    rw (p.1, p.2) (still-fails (word_terms Body (words c.args.line.now))
    (with_waiting c.args.self.now c.args.builder.now) _ c.in_err-add.ensures.terms)
