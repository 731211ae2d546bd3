-- What was counted so far, with what the events to come count, is the whole. The loop ends because each event leaves
-- fewer.
use Rattle.std.proofs.Common.{◌≡◌, ◌+◌, ◌≤◌}
use Rattle.contract_words.specs.Knowledge.{still_known}
use Rattle.mbox_cutter.specs.Places.{events_left}
use Rattle.worked_parts.proofs.Tallies.{Tallied, IsAfter}
use Rattle.worked_parts.proofs.cut_archives.tally_of.Given as goal

abbrev pub invariant-events : goal.invariant-events
invariant-events g l = record {
  name : l.cutter.source.ghost_name ≡ l.initial.cutter.source.ghost_name;
  failures : g.S.Source.failures l.cutter.source.now ≡ g.S.Source.failures l.initial.cutter.source.now;
  tallied : Tallied (still_known l.initial.cutter.coming (g.S.Source.rest l.cutter.source.now)) l.count l.bytes
      l.cutter.coming;
  events : l.count + events_left l.cutter.place ≤ events_left l.initial.cutter.place;
  after : IsAfter l.bytes l.cutter.place.phase l.cutter.place.offset;
  most : l.cutter.place.most ≡ l.initial.cutter.place.most;
}

abbrev pub decreases-events : goal.decreases-events
decreases-events g l = events_left l.cutter.place
