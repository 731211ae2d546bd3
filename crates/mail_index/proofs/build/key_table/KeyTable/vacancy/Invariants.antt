-- Each slot of the window that was looked at has the number of an entry.
use Rattle.std.proofs.Common.{◌≤◌}
use Rattle.mail_index.specs.Inside.KeyTables.{AreFilled}
use Rattle.mail_index.proofs.build.key_table.KeyTable.vacancy.Given as goal

abbrev pub invariant-loop-slot : goal.invariant-loop-slot
invariant-loop-slot l = record {
  from : l.first ≤ l.slot;
  filled : AreFilled l.self l.fn.hash.bits l.count l.slot;
}
