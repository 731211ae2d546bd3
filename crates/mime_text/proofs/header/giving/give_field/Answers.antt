-- `give_field` gives the one text of a field, because the reader has the text of the body that it read.
use Rattle.mime_text.proofs.Words.{◌≡◌, ◌∙◌, Some, HeaderField, kind_of_field}
use Rattle.mime_text.proofs.GivingLemmas.{texts-some, hands-one}
use Rattle.mime_text.proofs.header.giving.give_field.Goals as goal

pub returns : goal.returns
returns g c =
    let f : HeaderField = record { name = c.args.field.name.now; body = c.args.field.body.now } in
    let k : kind_of_field c.args.field.name.now ≡ Some c.in-Some.kind = cc in
    rw (texts-some f c.in-Some.kind k, ← (c.text.ensures.text ∙ c.in_ok-read.ensures.text))
    (hands-one g.S.TextSink.takes g.S.TextSink.refuses (c.in-Some.kind, c.text.result.now) c.give_text.result _ _
    c.give_text.ensures)
