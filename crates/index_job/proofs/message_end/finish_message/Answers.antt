-- `finish_message` ends the text, adds the waiting lines, and ends the message. A fault of any of these means
-- that not all of the message's terms can be added.
use Rattle.std.proofs.lemmas.Result.{on_ok_weaker}
use Rattle.index_job.proofs.Words.{◌∙◌, ap₂, err_from_is_err_and, Draft, Facts, ended_with, with_waiting}
use Rattle.index_job.proofs.Gatherings.{texts-fail, waiting-fail, ids-fail, open-after}
use Rattle.index_job.proofs.message_end.finish_message.Goals as goal

pub returns-in_err-facts-clause-err : goal.returns-in_err-facts-clause-err
returns-in_err-facts-clause-err c =
    let p = err_from_is_err_and c.from_residual.result c.from_residual.ensures.1 in
    rw (p.1, p.2) (λ ls d g. texts-fail ls d _ (c.in_err-facts.ensures.err ls d g))

pub add-requires : goal.add-requires
add-requires c =
    let o = c.requires.opened in
    (open-after _ _ _ _ _ (c.in_ok-facts.ensures.ok o.1 o.0 o.2) o.3).phase

pub returns-in_err-add-clause-err : goal.returns-in_err-add-clause-err
returns-in_err-add-clause-err c =
    let o = c.requires.opened in
    let whole : Draft = with_waiting c.end_text.new.room.waiting c.end_text.new.builder in
    let still = open-after c.args.span.archive c.args.span.offset o.1 o.0 whole
    (c.in_ok-facts.ensures.ok o.1 o.0 o.2) o.3 in
    let p = err_from_is_err_and c.from_residual-in_err-add.result c.from_residual-in_err-add.ensures.1 in
    rw (p.1, p.2) (λ ls d g. waiting-fail ls d whole _ still.kept (c.in_ok-facts.ensures.ok ls d g)
    c.in_err-add.ensures.terms)

pub end_message-requires-clause-opened : goal.end_message-requires-clause-opened
end_message-requires-clause-opened c =
    let o = c.requires.opened in
    open-after _ _ _ _ _ (c.in_ok-add.ensures.terms ∙ c.in_ok-facts.ensures.ok o.1 o.0 o.2) o.3

pub returns-clause-err : goal.returns-clause-err
returns-clause-err c = ids-fail _ _ _ _ _ c.in_ok-facts.ensures.facts
    (λ ls d g. c.in_ok-add.ensures.terms ∙ c.in_ok-facts.ensures.ok ls d g) c.end_message.ensures.err

pub returns-clause-ok : goal.returns-clause-ok
returns-clause-ok c = on_ok_weaker c.end_message.result
    (λ is ls d g. is ∙ ap₂ (λ (facts : Facts) (builder : Draft). ended_with facts c.args.span builder)
    (c.in_ok-facts.ensures.facts ls d g) (c.in_ok-add.ensures.terms ∙ c.in_ok-facts.ensures.ok ls d g))
    c.end_message.ensures.ok
