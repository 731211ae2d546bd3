-- `with_each` returns the ending after more bytes, byte by byte.
use Rattle.mail_answer.proofs.Words.{◌∙◌, ◌+◌, [], ◌∷◌, ◌++◌, get_or, take, ap, sym, append_assoc, arith, take_more, ending_of_bytes, with_byte}
use Rattle.mail_answer.proofs.OutputLaws.Endings.{ending_more}
use Rattle.mail_answer.proofs.output.ending.with_each.Goals as goal

pub loop-b-preserved : goal.loop-b-preserved
loop-b-preserved c =
    λ bytes is.
    let more = c.args.more.now in
    let i = c.loop-b.b-index in
    let next = take_more _ i 0 (omega arith) in
    c.with_byte-ending.ensures ∙ ap (λ e. with_byte e (get_or more i 0)) (c.loop-b.invariant bytes is)
    ∙ sym (ending_more _ _)
    ∙ ap ending_of_bytes (append_assoc bytes (take i more) (get_or more i 0 ∷ [])
    ∙ ap (λ l. bytes ++ l) (sym next))
