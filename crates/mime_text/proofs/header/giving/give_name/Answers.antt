-- `give_name` gives the name of the entity, because the reader has a name exactly if the header does.
use Rattle.mime_text.proofs.Words.{◌≡◌, ◌∙◌, Some, name_text, arith}
use Rattle.mime_text.proofs.GivingLemmas.{hands-one}
use Rattle.mime_text.proofs.header.giving.give_name.Goals as goal

pub returns-in-Some : goal.returns-in-Some
returns-in-Some g c =
    let e : Some c.in-Some.text.now ≡ name_text c.args.fields =
    grind arith in
    rw (← e) (hands-one g.S.TextSink.takes g.S.TextSink.refuses _ c.give_text.result _ _ c.give_text.ensures)
