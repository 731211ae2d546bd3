-- `add_words` adds the folded words of a text, because in ASCII these are the words of its folding; others are folded
-- one by one. A blank text has none.
use Rattle.index_job.proofs.Words.{◌∙◌, sym, arith, err_from_is_err_and, text_terms, with_waiting}
use Rattle.index_job.proofs.BlankTexts.{blank-terms}
use Rattle.index_job.proofs.FoldedWords.{held-within, held-sizes, terms-of-whole, terms-of-held}
use Rattle.index_job.proofs.Terms.{still-fails}
use Rattle.index_job.proofs.term_sink.add_words.Goals as goal

pub returns-then-is_blank-clause-terms : goal.returns-then-is_blank-clause-terms
returns-then-is_blank-clause-terms c = blank-terms _ _ _ (sym c.is_blank.ensures ∙ c.if-is_blank.true)

pub returns-in_err-add-clause-terms : goal.returns-in_err-add-clause-terms
returns-in_err-add-clause-terms c =
    let p = err_from_is_err_and c.from_residual-in_err-add.result c.from_residual-in_err-add.ensures.1 in
    rw (p.1, p.2) (still-fails (text_terms (c.args.kind, c.args.text.now))
    (with_waiting c.args.room.now.waiting c.args.builder.now) _ c.in_err-add.ensures.terms)

pub returns-then-is_whole-clause-terms : goal.returns-then-is_whole-clause-terms
returns-then-is_whole-clause-terms c = grind (arith, terms-of-whole)

pub add_cut_words-requires-clause-within : goal.add_cut_words-requires-clause-within
add_cut_words-requires-clause-within c = grind (arith, held-within)

pub add_cut_words-requires-clause-sizes : goal.add_cut_words-requires-clause-sizes
add_cut_words-requires-clause-sizes c = grind (arith, held-sizes)

pub returns-clause-terms : goal.returns-clause-terms
returns-clause-terms c = grind (arith, terms-of-held)
