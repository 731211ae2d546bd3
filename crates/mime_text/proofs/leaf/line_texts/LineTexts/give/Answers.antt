-- `LineTexts::give` gives the text of a line, by its kind: plain, or HTML, in which a tag may stay open.
use Rattle.mime_text.proofs.Words.{◌≡◌, Bool, true, false, refl, Result, OnOk, rules, arith}
use Rattle.mime_text.proofs.LineSteps.{hands_line}
use Rattle.mime_text.proofs.leaf.line_texts.LineTexts.give.Goals as goal

same : {T E : Type 0} (result : Result T E) (b : Bool) → OnOk result (b ≡ b)
same result b = grind arith

pub returns-then-not-self : goal.returns-then-not-self
returns-then-not-self g c =
    let is : c.args.self.now.is_html ≡ false = search rules in
    hands_line g.S.TextSink.takes g.S.TextSink.refuses c.args.self.now
    (record c.args.self.now { buffers = c.show_plain.new.self }) c.args.line.now c.show_plain.result _ _
    (rw is c.show_plain.ensures) refl refl (rw is (same c.show_plain.result c.args.self.now.is_open))

pub returns : goal.returns
returns g c =
    let is : c.args.self.now.is_html ≡ true = search rules in
    hands_line g.S.TextSink.takes g.S.TextSink.refuses c.args.self.now
    (record c.args.self.now { is_open = c.show_html.new.is_open; buffers = c.show_html.new.self }) c.args.line.now
    c.show_html.result _ _ (rw is c.show_html.ensures.shows) refl refl (rw is c.show_html.ensures.is_open)
