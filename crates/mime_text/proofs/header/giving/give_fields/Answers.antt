-- `give_fields` gives the texts of the fields and then the name, and stops at the first fault.
use Rattle.mime_text.proofs.Words.{[], refl, name_texts, header_texts}
use Rattle.mime_text.proofs.Handing.{fault-up, hands-later}
use Rattle.mime_text.proofs.GivingLemmas.{gave-front, broke-front}
use Rattle.mime_text.proofs.header.giving.give_fields.Goals as goal

pub returns : goal.returns
returns g c =
    hands-later g.S.TextSink.takes g.S.TextSink.refuses (λ _. header_texts c.args.counted c.args.fields)
    (λ _. name_texts c.args.fields) (λ _. []) c.give_name.result _ _ _
    (gave-front g.S.TextSink.takes g.S.TextSink.refuses _ (λ _. header_texts c.args.counted c.args.fields)
    (λ _. name_texts c.args.fields) _ _ (λ ms. refl) (rw c.again.ensures at c.in_ok-give_counted.ensures))
    c.give_name.ensures

pub returns-in_err-give_counted : goal.returns-in_err-give_counted
returns-in_err-give_counted g c =
    rw (fault-up c.from_residual.result _ c.from_residual.ensures.1)
    (broke-front g.S.TextSink.takes g.S.TextSink.refuses _ (λ _. header_texts c.args.counted c.args.fields)
    (λ _. name_texts c.args.fields) _ _ _ (λ ms. refl) (rw c.again.ensures at c.in_err-give_counted.ensures))
