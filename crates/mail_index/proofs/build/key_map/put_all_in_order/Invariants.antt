-- Each entry that was passed is in order.
use Rattle.std.proofs.Common.{ℕ, ◌<◌}
use Rattle.mail_index.specs.Inside.KeyMaps.{numbers_in, AreInStep, IsAmong, IsPartOf}
use Rattle.mail_index.proofs.build.key_map.put_all_in_order.Given as goal

abbrev pub invariant-loop-number : goal.invariant-loop-number
invariant-loop-number l = record {
  step : AreInStep l.entries l.order;
  part : IsPartOf (numbers_in l.fn.order) (numbers_in l.order);
  first : (i : ℕ) → i < l.number → IsAmong i (numbers_in l.order);
}
