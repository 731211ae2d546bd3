-- `add_message` adds a message line by line, because the lines that are gathered at its end are its whole text.
use Rattle.index_job.proofs.Words.{◌∙◌, ℕ, List, Option, false, subst, arith, MatchOption, Ended, IsReading, HasReadAll, err_from_is_err_and, draft_in_message, with_waiting}
use Rattle.index_job.proofs.MessageSteps.{message-fault, opens, ready-after, adds-message, own-fault}
use Rattle.index_job.proofs.SourceReads.{reads-join}
use Rattle.index_job.proofs.ReadingLines.{still-reading}
use Rattle.contract_words.proofs.StillKnown.{still-earlier}
use Rattle.index_job.proofs.archive_reading.add_message.Goals as goal

pub returns-in_err-length-clause-known : goal.returns-in_err-length-clause-known
returns-in_err-length-clause-known g c =
    let p = err_from_is_err_and c.from_residual-in_err-length.result c.from_residual-in_err-length.ensures.1 in
    λ w at comes.
    let r = c.lines.invariant.comes w (still-earlier _ _ _ _ c.in_err-length.ensures.reads.stays.known comes) in
    rw (p.1, p.2) (message-fault c.args.archive c.args.builder.now w c.in_err-length.field-0.0 c.requires.ready.kept
    (c.in_err-length.ensures.fault (draft_in_message c.args.builder.now) w r.0 r.1
    (still-reading _ w _ _ _ _ _ _ _ _ comes r.2)))

pub returns-in_err-length-clause-own : goal.returns-in_err-length-clause-own
returns-in_err-length-clause-own g c =
    let p = err_from_is_err_and c.from_residual-in_err-length.result c.from_residual-in_err-length.ensures.1 in
    let d = draft_in_message c.args.builder.now in
    let gathered = c.lines.invariant.gathers in
    rw (p.1, p.2) (c.in_err-length.ensures.own d gathered.0 gathered.1)

pub finish_message-requires-clause-opened : goal.finish_message-requires-clause-opened
finish_message-requires-clause-opened g c =
    let d = draft_in_message c.args.builder.now in
    let gathered = c.lines.invariant.gathers in
    let more = c.in_ok-length.ensures.gathers d gathered.0 gathered.1 in
    (d, more.0, more.1, opens _ _ _ c.requires.ready)

pub returns-in-Some-clause-ready : goal.returns-in-Some-clause-ready
returns-in-Some-clause-ready g c =
    let d = c.args.builder.now in
    let start = c.args.offset in
    let place = c.next_line.new.cutter.place in
    let ended = c.in-Some.field-0 in
    let gathered = c.lines.invariant.gathers in
    let more = c.in_ok-length.ensures.gathers (draft_in_message d) gathered.0 gathered.1 in
    let ends = rw c.in-Some.is at c.in_ok-length.ensures.place in
    ready-after (record { archive = c.args.archive; offset = start; length = ended.length; size = ended.size }) d
    place.offset c.finish_message.result c.next_line.new.text
    (with_waiting c.next_line.new.room.waiting c.next_line.new.builder) c.finish_message.new.builder more.0 more.1
    c.requires.ready ends.offset c.finish_message.ensures.ok

pub returns-in-Some-clause-known : goal.returns-in-Some-clause-known
returns-in-Some-clause-known g c = λ w at comes.
    let d = c.args.builder.now in
    let ended = c.in-Some.field-0 in
    let text = c.next_line.new.text in
    let gathered = with_waiting c.next_line.new.room.waiting c.next_line.new.builder in
    let coming = c.next_line.new.cutter.coming in
    let open_draft = draft_in_message d in
    let r = c.lines.invariant.comes w (still-earlier _ _ _ _ c.in_ok-length.ensures.reads.stays.known comes) in
    let all =
    rw c.in-Some.is at (c.in_ok-length.ensures.known open_draft w r.0 r.1 (still-reading _ w _ _ _ _ _ _ _ _ comes r.2))
    in
    adds-message (record { archive = c.args.archive; offset = c.args.offset; length = ended.length; size = ended.size })
    d w coming c.finish_message.result text gathered c.finish_message.new.builder c.requires.ready.kept
    c.requires.ready.phase at all c.finish_message.ensures.ok c.finish_message.ensures.err

pub returns-in-Some-clause-own : goal.returns-in-Some-clause-own
returns-in-Some-clause-own g c =
    let d = draft_in_message c.args.builder.now in
    let gathered = c.lines.invariant.gathers in
    let more = c.in_ok-length.ensures.gathers d gathered.0 gathered.1 in
    own-fault _ _ _ d _ more.1 c.finish_message.ensures.err

pub lines-preserved : goal.lines-preserved
lines-preserved g c =
    let i = c.lines.invariant in
    let e = c.in_ok-length.ensures in
    let start = c.args.offset in
    let text = c.next_line.new.text in
    let gathered = with_waiting c.next_line.new.room.waiting c.next_line.new.builder in
    let next = c.next_line.new.cutter in
    let inside = rw c.in_default.is at e.place in
    record {
      reads = reads-join g.S.Source false c.args.cutter.now.source c.lines.cutter.source next.source i.reads e.reads;
      inside = inside;
      most = e.further.most ∙ i.most;
      later = omega arith;
      nearer = omega arith;
      gathers = e.gathers (draft_in_message c.args.builder.now) i.gathers.0 i.gathers.1;
      comes = λ w comes.
          let open_draft = draft_in_message c.args.builder.now in
          let r = i.comes w (still-earlier _ _ _ _ e.reads.stays.known comes) in
          subst (λ (o : Option Ended). MatchOption o
          ((more left : List (List ℕ)) × IsReading open_draft w more left text gathered next.coming)
          (λ e. HasReadAll open_draft w e text gathered next.coming)) c.in_default.is
          (e.known open_draft w r.0 r.1 (still-reading _ w _ _ _ _ _ _ _ _ comes r.2));
    }
