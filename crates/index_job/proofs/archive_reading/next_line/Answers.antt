-- `next_line` gathers a line or ends the message, because no other event comes inside a message.
use Rattle.index_job.proofs.Words.{◌∙◌, [], ◌∷◌, ◌++◌, ap, refl, Ok, err_from_is_err_and, texts_of_message, with_texts, with_waiting}
use Rattle.index_job.proofs.ReadingLines.{reads-line, reads-end, line-is-fault, gather-own}
use Rattle.index_job.proofs.SourceReads.{event-takes, line-takes}
use Rattle.index_job.proofs.archive_reading.next_line.Goals as goal

pub returns-in_err-feed_line-in-Line-clause-fault :
    goal.returns-in_err-feed_line-in-Line-clause-fault
returns-in_err-feed_line-in-Line-clause-fault g c =
    let p = err_from_is_err_and c.from_residual-in_err-feed_line-in-Line.result
    c.from_residual-in_err-feed_line-in-Line.ensures.1 in
    let new = c.next_event.new.self in
    let line = c.line.result.now in
    let takes = line-takes g.S.Source c.args.cutter.now new c.next_event.result
    (c.in_ok-next_event.was ∙ ap Ok c.in-Line.is) c.next_event.ensures.advances line c.line.ensures in
    rw (p.1, p.2) (λ d w ls rest r. line-is-fault d w ls rest c.args.text.now
    (with_waiting c.args.room.now.waiting c.args.builder.now) _ new.coming line _ r takes
    (λ ms. c.in_err-feed_line-in-Line.ensures.err ls ms d r.so_far))

pub returns-in_err-feed_line-in-Line-clause-own : goal.returns-in_err-feed_line-in-Line-clause-own
returns-in_err-feed_line-in-Line-clause-own g c =
    let p = err_from_is_err_and c.from_residual-in_err-feed_line-in-Line.result
    c.from_residual-in_err-feed_line-in-Line.ensures.1 in
    rw (p.1, p.2) (λ d ls h. gather-own (with_texts (texts_of_message (ls ++ c.line.result.now ∷ [])) d) _
    (c.in_err-feed_line-in-Line.ensures.err ls [] d h))

pub returns-in_ok-feed_line-in-Line-clause-gathers :
    goal.returns-in_ok-feed_line-in-Line-clause-gathers
returns-in_ok-feed_line-in-Line-clause-gathers g c = λ d ls h. (_, c.in_ok-feed_line-in-Line.ensures.ok ls d h)

pub returns-in_ok-feed_line-in-Line-clause-known :
    goal.returns-in_ok-feed_line-in-Line-clause-known
returns-in_ok-feed_line-in-Line-clause-known g c =
    let new = c.next_event.new.self in
    let line = c.line.result.now in
    let takes = line-takes g.S.Source c.args.cutter.now new c.next_event.result
    (c.in_ok-next_event.was ∙ ap Ok c.in-Line.is) c.next_event.ensures.advances line c.line.ensures in
    λ d w ls rest r. reads-line d w ls rest c.args.text.now
    (with_waiting c.args.room.now.waiting c.args.builder.now) _ new.coming line c.feed_line.new.text
    (with_waiting c.feed_line.new.room.waiting c.feed_line.new.builder) r takes
    (c.in_ok-feed_line-in-Line.ensures.ok ls d r.so_far)

pub returns-in-End-clause-known : goal.returns-in-End-clause-known
returns-in-End-clause-known g c =
    let new = c.next_event.new.self in
    λ d w ls rest r. reads-end d w _ _ _ _ _ _ _ r
    (event-takes g.S.Source c.args.cutter.now new c.next_event.result _ (c.in_ok-next_event.was ∙ ap Ok c.in-End.is)
    c.next_event.ensures.advances _ refl)
