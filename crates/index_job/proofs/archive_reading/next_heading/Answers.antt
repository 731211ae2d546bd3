-- `next_heading` returns a message or the end, because no other event comes between two messages.
use Rattle.index_job.proofs.Words.{◌∙◌, ap, Ok}
use Rattle.index_job.proofs.Headings.{heads-message, heads-end}
use Rattle.index_job.proofs.SourceReads.{event-takes}
use Rattle.index_job.proofs.archive_reading.next_heading.Goals as goal

pub returns-in-Start-clause-known : goal.returns-in-Start-clause-known
returns-in-Start-clause-known g c =
    let new = c.next_event.new.self in
    λ all ms refusal comes. heads-message _ _ _ _ _ _
    (event-takes g.S.Source c.args.cutter.now new c.next_event.result _ (c.in_ok-offset.was ∙ ap Ok c.in-Start.is)
    c.next_event.ensures.advances _ comes)

pub returns-in-Done-clause-known : goal.returns-in-Done-clause-known
returns-in-Done-clause-known g c =
    let new = c.next_event.new.self in
    λ all ms refusal comes. heads-end _ _ _ _ _
    (event-takes g.S.Source c.args.cutter.now new c.next_event.result _ (c.in_ok-offset.was ∙ ap Ok c.in-Done.is)
    c.next_event.ensures.advances _ comes)
