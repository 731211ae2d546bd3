-- `read_rest` reads alternative by alternative and stops at the first fault, because it is given all parts between
-- slashes.
use Rattle.mail_query.proofs.Words.{length, arith, lit<, Ok, ap, sym, ◌∙◌, slice_split, length_push, YieldsList-turn, YieldsList-end, YieldsList-from_str_split, either_of, queries_of, refusal, is_byte, forms_of, all_query}
use Rattle.mail_query.proofs.MairixLaws.EachLemmas.{reads_more, part_refused, parts_read}
use Rattle.mail_query.proofs.mairix.terms.read_rest.Goals as goal

pub loop-part-preserved : goal.loop-part-preserved
loop-part-preserved c =
    let turn = YieldsList-turn (YieldsList-from_str_split 0x2F c.args.text.now (lit< tt) (cc) (cc) (cc))
    c.loop-part.yielded _ c.loop-part.yielded_by _ _ c.in-Some.part c.in-Some.is c.next.ensures.steps in
    grind (arith, length_push, reads_more)

pub returns-in_err-alternative : goal.returns-in_err-alternative
returns-in_err-alternative c =
    let turn = YieldsList-turn (YieldsList-from_str_split 0x2F c.args.text.now (lit< tt) (cc) (cc) (cc))
    c.loop-part.yielded _ c.loop-part.yielded_by _ _ c.in-Some.part c.in-Some.is c.next.ensures.steps in
    let read = all_query (forms_of c.args.target) in
    let parts = slice_split (is_byte 0x2F) c.args.text.now in
    let refused = part_refused read parts either_of (queries_of c.loop-part.members.items) (length c.loop-part.yielded)
    c.in-Some.part.now (refusal c.in_err-alternative.field-0.0) c.loop-part.invariant turn
    c.in_err-alternative.ensures in
    grind arith

pub returns : goal.returns
returns c =
    let end = YieldsList-end (YieldsList-from_str_split 0x2F c.args.text.now (lit< tt) (cc) (cc) (cc))
    c.loop-part.yielded _ c.loop-part.yielded_by _ _ c.in-None.is c.next.ensures.steps in
    let read = all_query (forms_of c.args.target) in
    let parts = slice_split (is_byte 0x2F) c.args.text.now in
    parts_read read parts either_of (queries_of c.loop-part.members.items) (length c.loop-part.yielded)
    c.loop-part.invariant end.1 ∙ ap Ok (sym c.either_of.ensures)
