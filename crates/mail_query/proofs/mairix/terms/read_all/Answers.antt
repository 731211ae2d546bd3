-- `read_all` reads term by term and stops at the first fault, because it is given all parts between commas.
use Rattle.mail_query.proofs.Words.{length, arith, lit<, Ok, ap, sym, ◌∙◌, slice_split, length_push, YieldsList-turn, YieldsList-end, YieldsList-from_str_split, all_of, queries_of, refusal, is_byte, forms_of, term_query}
use Rattle.mail_query.proofs.MairixLaws.EachLemmas.{reads_more, part_refused, parts_read}
use Rattle.mail_query.proofs.mairix.terms.read_all.Goals as goal

pub loop-part-preserved : goal.loop-part-preserved
loop-part-preserved c =
    let turn = YieldsList-turn (YieldsList-from_str_split 0x2C c.args.text.now (lit< tt) (cc) (cc) (cc))
    c.loop-part.yielded _ c.loop-part.yielded_by _ _ c.in-Some.part c.in-Some.is c.next.ensures.steps in
    grind (arith, length_push, reads_more)

pub returns-in_err-term : goal.returns-in_err-term
returns-in_err-term c =
    let turn = YieldsList-turn (YieldsList-from_str_split 0x2C c.args.text.now (lit< tt) (cc) (cc) (cc))
    c.loop-part.yielded _ c.loop-part.yielded_by _ _ c.in-Some.part c.in-Some.is c.next.ensures.steps in
    let read = term_query (forms_of c.args.target) in
    let parts = slice_split (is_byte 0x2C) c.args.text.now in
    let refused = part_refused read parts all_of (queries_of c.loop-part.members.items) (length c.loop-part.yielded)
    c.in-Some.part.now (refusal c.in_err-term.field-0.0) c.loop-part.invariant turn c.in_err-term.ensures in
    grind arith

pub returns : goal.returns
returns c =
    let end = YieldsList-end (YieldsList-from_str_split 0x2C c.args.text.now (lit< tt) (cc) (cc) (cc))
    c.loop-part.yielded _ c.loop-part.yielded_by _ _ c.in-None.is c.next.ensures.steps in
    let read = term_query (forms_of c.args.target) in
    let parts = slice_split (is_byte 0x2C) c.args.text.now in
    parts_read read parts all_of (queries_of c.loop-part.members.items) (length c.loop-part.yielded)
    c.loop-part.invariant end.1 ∙ ap Ok (sym c.all_of.ensures)
