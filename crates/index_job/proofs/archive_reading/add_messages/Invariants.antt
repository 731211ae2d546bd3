-- The messages so far are added, and none is open. The loop ends because each message leaves fewer events to come.
use Rattle.index_job.proofs.Words.{still_known, false, ◌≡◌, ◌≤◌, ℕ, List, Option, Some, Message, CutFault, events_left, coming_ahead, HasDone, ReadsSource, IsReadyForMessage}
use Rattle.mbox_cutter.specs.declared.scan.Phase.TheVariants.{Between}
use Rattle.index_job.proofs.archive_reading.add_messages.Given as goal

-- no message is open; if it is known what is to come, the first messages are done, and the others are to come
abbrev pub invariant-messages : goal.invariant-messages
invariant-messages g l = record {
  reads : ReadsSource g.S.Source false l.initial.cutter.source l.cutter.source;
  between : l.cutter.place.phase ≡ Between;
  most : l.cutter.place.most ≡ l.initial.cutter.place.most;
  ready : IsReadyForMessage l.archive l.cutter.place.offset l.builder;
  few : l.messages ≤ l.cutter.place.offset;
  done : (all : ℕ) (ms : Option (List Message)) (refusal : Option CutFault)
      → still_known l.initial.cutter.coming (g.S.Source.rest l.cutter.source.now) ≡ Some (coming_ahead all ms refusal)
      → HasDone l.archive l.fn.builder all ms refusal l.messages l.builder l.cutter.coming;
}

abbrev pub decreases-messages : goal.decreases-messages
decreases-messages g l = events_left l.cutter.place
