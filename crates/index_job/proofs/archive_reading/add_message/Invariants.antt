-- The message is open, and its first lines are gathered. The loop ends because each event leaves fewer to come.
use Rattle.index_job.proofs.Words.{still_known, false, ◌≡◌, ◌≤◌, ℕ, List, Some, text, events_left, Awaited, coming_inside, IsInsideMessage, IsReadingSome, ReadsSource, HasGathered, draft_in_message, with_waiting}
use Rattle.index_job.proofs.archive_reading.add_message.Given as goal

-- the message is still open, and its first lines are gathered; if it is known what is to come, they are a beginning of
-- its text
abbrev pub invariant-lines : goal.invariant-lines
invariant-lines g l = record {
  reads : ReadsSource g.S.Source false l.initial.cutter.source l.cutter.source;
  inside : IsInsideMessage l.offset l.cutter.place;
  most : l.cutter.place.most ≡ l.initial.cutter.place.most;
  later : l.initial.cutter.place.offset ≤ l.cutter.place.offset;
  nearer : events_left l.cutter.place ≤ events_left l.initial.cutter.place;
  gathers : (ls : List (List ℕ)) × HasGathered l.text (with_waiting l.room.waiting l.builder)
      (draft_in_message l.fn.builder) ls;
  comes : (w : Awaited) → still_known l.initial.cutter.coming (g.S.Source.rest l.cutter.source.now)
      ≡ Some (coming_inside w (text w.message))
      → IsReadingSome (draft_in_message l.fn.builder) w l.text (with_waiting l.room.waiting l.builder)
      l.cutter.coming;
}

abbrev pub decreases-lines : goal.decreases-lines
decreases-lines g l = events_left l.cutter.place
