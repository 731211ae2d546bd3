-- `LeafReader::line` may give a line at once if nothing is encoded or held, because the line is then whole by itself.
use Rattle.mime_text.proofs.Words.{◌≡◌, ◌++◌, ℕ, List, [], ◌∷◌, Some, length, refl, concat, lines, line_end_of, still_decoded, pairs_of_lines, pairs_of_bytes, LineTexts, arith}
use Rattle.mime_text.specs.declared.leaf.decoder.Decoder.{Decoder}
use Rattle.mime_text.specs.declared.leaf.decoder.Decoder.TheVariants.{Identity}
use Rattle.mime_text.proofs.Handing.{hands-along}
use Rattle.mime_text.proofs.LineSteps.{lines-whole, feed-end}
use Rattle.mime_text.proofs.leaf.leaf_reader.LeafReader.line.Goals as goal

-- a line that is given as it is, and the lines after it
passed : (texts : LineTexts) (decoder : Decoder) (held line : List ℕ) (ls : List (List ℕ)) → decoder ≡ Identity → held
    ≡ [] → Some (length line) ≡ line_end_of line
    → pairs_of_bytes texts (held ++ still_decoded decoder (line ∷ ls)) ≡ pairs_of_lines texts (line ∷ lines (concat ls))
passed texts decoder held line ls e f whole = grind (arith, lines-whole)

after : (texts : LineTexts) (decoder : Decoder) (held : List ℕ) (ls : List (List ℕ)) → decoder ≡ Identity → held ≡ []
    → pairs_of_bytes texts (held ++ still_decoded decoder ls) ≡ pairs_of_lines texts (lines (concat ls))
after texts decoder held ls e f = rw (e, f) refl

pub returns-then-is_passed_on : goal.returns-then-is_passed_on
returns-then-is_passed_on g c =
    let reader = c.args.self.now in
    let line : List ℕ = c.args.line.now in
    let e = c.is_passed_on.ensures.decoder c.if-is_passed_on.true in
    let f = c.is_passed_on.ensures.held c.if-is_passed_on.true in
    let whole : Some (length line) ≡ line_end_of line =
    grind (arith, feed-end) in
    hands-along g.S.TextSink.takes g.S.TextSink.refuses (λ ls. pairs_of_lines reader.texts (line ∷ ls))
    (λ ls. pairs_of_lines c.give.new.self ls)
    (λ ls. pairs_of_bytes reader.texts (reader.held ++ still_decoded reader.decoder (line ∷ ls)))
    (λ ls. pairs_of_bytes c.give.new.self (reader.held ++ still_decoded reader.decoder ls))
    (λ ls. lines (concat ls)) c.give.result c.args.sink.now c.give.new.sink
    (λ ls. passed reader.texts reader.decoder reader.held line ls e f whole)
    (λ ls. after c.give.new.self reader.decoder reader.held ls e f) c.give.ensures
