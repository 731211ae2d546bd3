-- The place of the key is between the two bounds, which come closer in each turn.
use Rattle.std.proofs.Common.{◌-◌}
use Rattle.mail_index.specs.Inside.KeyMaps.{slot_keys, AreBounds}
use Rattle.mail_index.proofs.build.key_search.search.Given as goal

abbrev pub invariant-loop-low : goal.invariant-loop-low
invariant-loop-low l = AreBounds l.kind l.text (slot_keys l.entries l.slots) l.low l.high

abbrev pub decreases-loop-low : goal.decreases-loop-low
decreases-loop-low l = l.high - l.low
