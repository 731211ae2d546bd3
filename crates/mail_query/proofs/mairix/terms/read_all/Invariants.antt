-- Each turn reads one term. The queries so far, with those of the terms left, are those of the whole text.
use Rattle.mail_query.proofs.Words.{length, slice_split, queries_of, is_byte, forms_of, term_query}
use Rattle.mail_query.proofs.MairixLaws.EachLemmas.{HasRead, unnumbered}
use Rattle.mail_query.proofs.mairix.terms.read_all.Given as goal

-- the queries so far, with those of the parts left, are those of the whole
abbrev pub invariant-loop-part : goal.invariant-loop-part
invariant-loop-part l =
    let read = term_query (forms_of l.target) in
    let parts = slice_split (is_byte 0x2C) l.text in
    HasRead unnumbered read parts (queries_of l.members.items) (length l.yielded)
