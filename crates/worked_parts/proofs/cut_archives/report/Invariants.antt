-- No call of the source has failed in this loop. It ends because each event leaves fewer to come.
use Rattle.std.proofs.Common.{◌≡◌}
use Rattle.mbox_cutter.specs.Places.{events_left}
use Rattle.worked_parts.proofs.cut_archives.report.Given as goal

abbrev pub invariant-events : goal.invariant-events
invariant-events g l = g.S.Source.failures l.cutter.source.now ≡ g.S.Source.failures l.initial.cutter.source.now

abbrev pub decreases-events : goal.decreases-events
decreases-events g l = events_left l.cutter.place
