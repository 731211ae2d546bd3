-- Each slot of the window that was looked at has an entry of another key.
use Rattle.std.proofs.Common.{◌≤◌}
use Rattle.mail_index.specs.Inside.KeyTables.{AreOthers}
use Rattle.mail_index.proofs.build.key_table.KeyTable.find.Given as goal

abbrev pub invariant-loop-slot : goal.invariant-loop-slot
invariant-loop-slot l = record {
  from : l.first ≤ l.slot;
  others : AreOthers l.kind l.text l.entries l.self l.fn.hash.bits l.slot;
}
