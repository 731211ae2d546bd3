-- `give_counted` gives the texts of all fields in order, field by field, and stops at the first fault.
use Rattle.mime_text.proofs.Words.{◌≡◌, ◌∙◌, ◌≤◌, ◌++◌, List, [], ◌∷◌, true, ap, arith, rules, HeaderField, fields_size, most_in_header, texts_of_fields, ComingPairs}
use Rattle.mime_text.proofs.GivingLemmas.{gave-front, gave-after, broke-front}
use Rattle.mime_text.proofs.Handing.{fault-up, gave-more, broke-later}
use Rattle.mime_text.proofs.header.giving.give_counted.Goals as goal

abbrev texts : List HeaderField → ComingPairs
texts fields ms = texts_of_fields fields

pub returns-in_err-give_field : goal.returns-in_err-give_field
returns-in_err-give_field g c =
    let f : HeaderField = record { name = c.in-Some.field.name.now; body = c.in-Some.field.body.now } in
    let e : texts_of_fields c.loop-field.field-iterator ≡ texts_of_fields (f ∷ []) ++ texts_of_fields c.next.new.self =
    grind arith in
    let is : c.args.counted ≡ true = search rules in
    rw (is, fault-up c.from_residual.result _ c.from_residual.ensures.1)
    (broke-later g.S.TextSink.takes g.S.TextSink.refuses (texts c.args.fields) (texts c.loop-field.field-iterator) _ _ _
    _ c.loop-field.invariant.3
    (broke-front g.S.TextSink.takes g.S.TextSink.refuses (texts (f ∷ [])) (texts c.loop-field.field-iterator)
    (texts c.next.new.self) _ _ _ (λ ms. e) c.in_err-give_field.ensures))

pub loop-field-preserved : goal.loop-field-preserved
loop-field-preserved g c =
    let f : HeaderField = record { name = c.in-Some.field.name.now; body = c.in-Some.field.body.now } in
    let e : texts_of_fields c.loop-field.field-iterator ≡ texts_of_fields (f ∷ []) ++ texts_of_fields c.next.new.self =
    grind arith in
    let size : fields_size c.next.new.self ≤ most_in_header =
    omega (arith, ap fields_size c.in-Some.ensures.steps) in (
      tt,
      tt,
      size,
      gave-more g.S.TextSink.takes g.S.TextSink.refuses (texts c.args.fields) (texts c.loop-field.field-iterator)
          (texts c.next.new.self) _ _ _ c.loop-field.invariant.3
          (gave-front g.S.TextSink.takes g.S.TextSink.refuses (texts (f ∷ [])) (texts c.loop-field.field-iterator)
          (texts c.next.new.self) _ _ (λ ms. e) c.in_ok-give_field.ensures),
    )

pub returns : goal.returns
returns g c =
    let is : c.args.counted ≡ true = search rules in
    rw is (gave-after g.S.TextSink.takes g.S.TextSink.refuses (texts c.args.fields) (texts c.loop-field.field-iterator)
    (λ _. []) _ _ (λ ms. ap texts_of_fields c.in-None.ensures.steps.0) c.loop-field.invariant.3)
