-- `add_messages` adds message by message, and stops at the end of the archive or at the first fault.
use Rattle.index_job.proofs.Words.{◌∙◌, Err, false, ap, subst, arith, err_from_is_err_and, Heads, Awaited, is_source_failure}
use Rattle.index_job.specs.declared.archive_reading.Heading.{Heading}
use Rattle.index_job.specs.declared.archive_reading.Heading.TheVariants.{Message}
use Rattle.index_job.proofs.ArchiveSteps.{done-none, between-fault, inside-fault, done-more, archive-done}
use Rattle.contract_words.proofs.StillKnown.{still-earlier, still-other}
use Rattle.index_job.proofs.SourceReads.{reads-none, reads-join, reads-passed}
use Rattle.index_job.proofs.archive_reading.add_messages.Goals as goal

pub messages-init : goal.messages-init
messages-init g c = grind (arith, reads-none, done-none)

pub returns-in_err-offset-clause-known : goal.returns-in_err-offset-clause-known
returns-in_err-offset-clause-known g c =
    let p = err_from_is_err_and c.from_residual.result c.from_residual.ensures.1 in
    λ all ms refusal comes.
    let earlier = still-earlier _ _ _ _ c.in_err-offset.ensures.reads.stays.known comes in
    let h = c.messages.invariant.done all ms refusal earlier in
    let fails = c.in_err-offset.ensures.fault all h.rest refusal (still-other _ _ _ _ comes ∙ h.comes) in
    rw (p.1, p.2) (between-fault c.args.archive c.args.builder.now all ms refusal c.messages.messages c.messages.builder
    c.messages.cutter.coming h c.in_err-offset.field-0.0 fails)

pub returns-in_err-add_message-in-Message-clause-known :
    goal.returns-in_err-add_message-in-Message-clause-known
returns-in_err-add_message-in-Message-clause-known g c =
    let p = err_from_is_err_and c.from_residual-in_err-add_message-in-Message.result
    c.from_residual-in_err-add_message-in-Message.ensures.1 in
    let start = c.in-Message.offset in
    λ all ms refusal comes.
    let mid = still-earlier _ _ _ _ c.in_err-add_message-in-Message.ensures.reads.stays.known comes in
    let h = c.messages.invariant.done all ms refusal
    (still-earlier _ _ _ _ c.in_ok-offset.ensures.reads.stays.known mid) in
    let heads : Heads (Message start) all h.rest refusal c.next_heading.new.cutter.coming =
    subst (λ (x : Heading). Heads x all h.rest refusal c.next_heading.new.cutter.coming) c.in-Message.is
    (c.in_ok-offset.ensures.known all h.rest refusal (still-other _ _ _ _ mid ∙ h.comes)) in
    let w : Awaited = record { all = all; message = heads.0; later = heads.1; refusal = refusal } in
    let fails = rw h.added at (c.in_err-add_message-in-Message.ensures.known w heads.3
    (still-other _ _ _ _ comes ∙ heads.4)) in
    rw (p.1, p.2) (inside-fault c.args.archive c.args.builder.now all ms refusal c.messages.messages c.messages.builder
    c.messages.cutter.coming h start c.next_heading.new.cutter.coming heads.0 heads.1 heads.2
    c.in_err-add_message-in-Message.field-0.0 fails)

pub messages-preserved : goal.messages-preserved
messages-preserved g c =
    let i = c.messages.invariant in
    let e = c.in_ok-add_message-in-Message.ensures in
    let start = c.in-Message.offset in
    let old = c.messages.cutter in
    let mid = c.next_heading.new.cutter in
    let placed = rw c.in-Message.is at c.in_ok-offset.ensures.place in
    record {
      reads = reads-join g.S.Source false c.args.cutter.now.source mid.source c.add_message.new.cutter.source
          (reads-join g.S.Source false c.args.cutter.now.source old.source mid.source i.reads
          c.in_ok-offset.ensures.reads) e.reads;
      between = e.between;
      most = e.further.most ∙ c.in_ok-offset.ensures.most ∙ i.most;
      ready = e.ready;
      few = omega arith;
      done = λ all ms refusal comes.
          let earlier = still-earlier _ _ _ _ e.reads.stays.known comes in
          let h = i.done all ms refusal (still-earlier _ _ _ _ c.in_ok-offset.ensures.reads.stays.known earlier) in
          let heads =
          rw c.in-Message.is at (c.in_ok-offset.ensures.known all h.rest refusal
          (still-other _ _ _ _ earlier ∙ h.comes)) in
          let w : Awaited = record { all = all; message = heads.0; later = heads.1; refusal = refusal } in
          let adds = rw h.added at (e.known w heads.3 (still-other _ _ _ _ comes ∙ heads.4)) in
          done-more c.args.archive c.args.builder.now all ms refusal c.messages.messages c.messages.builder old.coming h
          start mid.coming heads.0 heads.1 heads.2 c.add_message.new.builder c.add_message.new.cutter.coming adds.0
          adds.1;
    }

pub returns-in-End-clause-known : goal.returns-in-End-clause-known
returns-in-End-clause-known g c = λ all ms refusal comes.
    let bytes = c.in-End.length in
    let h = c.messages.invariant.done all ms refusal
    (still-earlier _ _ _ _ c.in_ok-offset.ensures.reads.stays.known comes) in
    let heads =
    rw c.in-End.is at (c.in_ok-offset.ensures.known all h.rest refusal (still-other _ _ _ _ comes ∙ h.comes)) in
    archive-done c.args.archive c.args.builder.now all ms refusal c.messages.messages c.messages.builder
    c.messages.cutter.coming h bytes heads

pub returns-in_err-offset-clause-reads : goal.returns-in_err-offset-clause-reads
returns-in_err-offset-clause-reads g c = grind (arith, err_from_is_err_and, reads-passed, reads-join)

pub returns-in_err-add_message-in-Message-clause-reads :
    goal.returns-in_err-add_message-in-Message-clause-reads
returns-in_err-add_message-in-Message-clause-reads g c =
    let p = err_from_is_err_and _ c.from_residual-in_err-add_message-in-Message.ensures.1 in
    let first = c.args.cutter.now.source in
    let mid = c.next_heading.new.cutter.source in
    let last = c.add_message.new.cutter.source in
    reads-passed g.S.Source c.from_residual-in_err-add_message-in-Message.result c.add_message.result
    c.in_err-add_message-in-Message.field-0.0 first last c.in_err-add_message-in-Message.was (p.1 ∙ ap Err p.2)
    (reads-join g.S.Source (is_source_failure c.add_message.result) first mid last
    (reads-join g.S.Source false first c.messages.cutter.source mid c.messages.invariant.reads
    c.in_ok-offset.ensures.reads) c.add_message.ensures.reads)

pub returns-in-End-clause-reads : goal.returns-in-End-clause-reads
returns-in-End-clause-reads g c = grind (arith, reads-join)

pub returns-in-End-clause-ended : goal.returns-in-End-clause-ended
returns-in-End-clause-ended g c = grind arith
