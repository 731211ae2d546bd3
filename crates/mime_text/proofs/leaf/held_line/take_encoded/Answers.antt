-- `take_encoded` gives the lines that are whole now. It may skip the bytes held before, because they have no LF.
use Rattle.mime_text.proofs.Words.{◌∙◌, ◌++◌, ℕ, List, [], ◌∷◌, sym, ap, arith, concat, still_decoded, pairs_of_bytes, line_end-open}
use Rattle.mime_text.proofs.Handing.{hands-along}
use Rattle.mime_text.proofs.HeldLines.{held-free, still-free}
use Rattle.mime_text.proofs.LineSteps.{concat-one}
use Rattle.mime_text.proofs.leaf.held_line.take_encoded.Goals as goal

pub take_lines-requires-clause-free : goal.take_lines-requires-clause-free
take_lines-requires-clause-free g c =
    let old : List ℕ = c.args.bytes.now.items in
    still-free old c.push.new.into.items (still_decoded c.push.new.self [])
    (still_decoded c.args.decoder.now (c.args.line.now ∷ [])) c.min.result (c.in_ok-push.ensures.bytes [])
    (omega arith) (omega arith) (held-free old c.requires)

pub take_lines-requires-clause-few : goal.take_lines-requires-clause-few
take_lines-requires-clause-few g c = omega (arith, line_end-open c.args.bytes.now.items (sym c.requires))

pub returns-clause-hands : goal.returns-clause-hands
returns-clause-hands g c =
    let mid : List ℕ = c.push.new.into.items in
    let end : List ℕ = c.take_lines.new.bytes.items in
    hands-along g.S.TextSink.takes g.S.TextSink.refuses (λ ls. pairs_of_bytes c.args.texts.now (mid ++ concat ls))
    (λ ls. pairs_of_bytes c.take_lines.new.texts (end ++ concat ls))
    (λ ls. pairs_of_bytes c.args.texts.now
    (c.args.bytes.now.items ++ still_decoded c.args.decoder.now (c.args.line.now ∷ ls)))
    (λ ls. pairs_of_bytes c.take_lines.new.texts (end ++ still_decoded c.push.new.self ls))
    (λ ls. still_decoded c.push.new.self ls ∷ [])
    c.take_lines.result c.args.sink.now c.take_lines.new.sink
    (λ ls. ap (pairs_of_bytes c.args.texts.now)
    (cc (c.in_ok-push.ensures.bytes ls, concat-one (still_decoded c.push.new.self ls))))
    (λ ls. ap (λ (l : List ℕ). pairs_of_bytes c.take_lines.new.texts (end ++ l))
    (sym (concat-one (still_decoded c.push.new.self ls))))
    c.take_lines.ensures.hands
