-- Each entry that was passed has a slot, or is in order.
use Rattle.mail_index.specs.Inside.KeyMaps.{numbers_in, AreInStep, IsPartOf}
use Rattle.mail_index.specs.Inside.KeyTables.{AreReachable}
use Rattle.mail_index.proofs.build.key_map.grown.Given as goal

abbrev pub invariant-loop-number : goal.invariant-loop-number
invariant-loop-number l = record {
  step : AreInStep l.entries l.order;
  part : IsPartOf (numbers_in l.fn.order) (numbers_in l.order);
  kept : AreReachable l.entries l.larger l.order l.number;
}
