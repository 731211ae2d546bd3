-- `give_rest` gives the whole lines and then the last one, which is short enough because it has no end.
use Rattle.mime_text.proofs.Words.{◌∙◌, List, ℕ, [], ◌∷◌, refl, sym, arith, line_end-open, pairs_of_lines, pairs_of_bytes}
use Rattle.mime_text.proofs.Handing.{fault-up, hands-later, hands-along}
use Rattle.mime_text.proofs.LineSteps.{no_bytes, some_bytes, gave-all, gave-front, broke-front}
use Rattle.mime_text.proofs.leaf.held_line.give_rest.Goals as goal

pub returns-then-is_empty : goal.returns-then-is_empty
returns-then-is_empty g c =
    rw (← (c.deref.ensures.value ∙ c.in_ok-finish.ensures.bytes))
    (gave-all g.S.TextSink.takes g.S.TextSink.refuses c.args.texts.now c.give_lines.new.texts c.deref.result.now
    c.in_ok-rest.rest.now c.args.sink.now c.give_lines.new.sink
    (no_bytes c.in_ok-rest.rest.now (sym c.if-is_empty.ensures)) c.in_ok-rest.ensures.gave)

pub give-requires : goal.give-requires
give-requires g c = omega (arith, line_end-open c.in_ok-rest.rest.now (sym c.in_ok-rest.ensures.open))

pub returns : goal.returns
returns g c =
    let rest : List ℕ = c.in_ok-rest.rest.now in
    rw (← (c.deref.ensures.value ∙ c.in_ok-finish.ensures.bytes))
    (hands-later g.S.TextSink.takes g.S.TextSink.refuses (λ _. pairs_of_bytes c.args.texts.now c.deref.result.now)
    (λ _. pairs_of_lines c.give_lines.new.texts (rest ∷ [])) (λ _. [])
    c.give.result c.args.sink.now c.give_lines.new.sink c.give.new.sink
    (gave-front g.S.TextSink.takes g.S.TextSink.refuses c.args.texts.now c.give_lines.new.texts c.deref.result.now rest
    c.args.sink.now c.give_lines.new.sink
    (sym c.in_ok-rest.ensures.open) (some_bytes rest (sym c.if-is_empty.ensures)) c.in_ok-rest.ensures.gave)
    (hands-along g.S.TextSink.takes g.S.TextSink.refuses (λ ls. pairs_of_lines c.give_lines.new.texts (rest ∷ ls))
    (λ ls. pairs_of_lines c.give.new.self ls)
    (λ _. pairs_of_lines c.give_lines.new.texts (rest ∷ [])) (λ _. []) (λ _. []) c.give.result c.give_lines.new.sink
    c.give.new.sink (λ ms. refl) (λ ms. refl) c.give.ensures))

pub returns-in_err-rest : goal.returns-in_err-rest
returns-in_err-rest g c =
    rw (
      fault-up c.from_residual-in_err-rest.result _ c.from_residual-in_err-rest.ensures.1,
      ← (c.deref.ensures.value ∙ c.in_ok-finish.ensures.bytes),
    )
    (broke-front g.S.TextSink.takes g.S.TextSink.refuses c.args.texts.now c.deref.result.now _ _ _
    c.in_err-rest.ensures.broke)
