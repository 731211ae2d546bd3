-- `give_header` gives nothing of a header without fields, because such a header has no texts.
use Rattle.mime_text.proofs.Words.{◌≡◌, ◌∙◌, [], arith}
use Rattle.mime_text.proofs.GivingLemmas.{gave-header_none}
use Rattle.mime_text.proofs.header.giving.give_header.Goals as goal

pub returns-then-not-has_fields : goal.returns-then-not-has_fields
returns-then-not-has_fields g c =
    let none : c.args.fields ≡ [] = grind arith in
    gave-header_none g.S.TextSink.takes g.S.TextSink.refuses c.args.counted c.args.fields _ none
