-- Each entry that was passed has its slot, and the others have room.
use Rattle.std.proofs.Common.{◌≡◌, ◌≤◌, length}
use Rattle.std.specs.List.{AllByRecursion}
use Rattle.std.specs.Vec.{vec_capacity}
use Rattle.mail_index.specs.Inside.KeyFronts.{IsFronted}
use Rattle.mail_index.specs.Inside.KeyMaps.{AreNumbered}
use Rattle.mail_index.proofs.build.key_order.write_slots.Given as goal

abbrev pub invariant-loop-number : goal.invariant-loop-number
invariant-loop-number l = record {
  long : length l.slots.items ≡ l.number;
  room : length l.entries ≤ vec_capacity l.slots;
  numbers : AreNumbered l.slots.items;
  fronted : AllByRecursion (IsFronted l.entries) l.slots.items;
}
