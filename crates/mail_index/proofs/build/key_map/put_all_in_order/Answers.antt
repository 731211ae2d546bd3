-- `put_all_in_order` sorts all entries, or puts those that aren't in order at their places in turn.
use Rattle.std.proofs.Common.{arith}
use Rattle.mail_index.proofs.Words.{◌≡◌, ◌+◌, ◌<◌, ℕ, Bool, true, false, nat_eq, nat_tests, refl}
use Rattle.mail_index.specs.Inside.KeyMaps.{numbers_in, IsAmong}
use Rattle.mail_index.proofs.build.key_map.put_all_in_order.Goals as goal

pub returns-in_err-put_in_order-clause-part : goal.returns-in_err-put_in_order-clause-part
returns-in_err-put_in_order-clause-part c i a = c.put_in_order.ensures.part i (c.loop-number.invariant.part i a)

pub loop-number-preserved : goal.loop-number-preserved
loop-number-preserved c = record {
  step = c.put_in_order.ensures.step;
  part = λ i a. c.put_in_order.ensures.part i (c.loop-number.invariant.part i a);
  first = λ i h. first i h (nat_eq i c.loop-number.number) refl;
}
  where
    first : (i : ℕ) → i < c.loop-number.number + 1 → (b : Bool) → nat_eq i c.loop-number.number ≡ b
        → IsAmong i (numbers_in c.put_in_order.new.order)
    first i h true e = let same : c.loop-number.number ≡ i = grind (arith, nat_tests)
        in rw (← same) c.in_ok-put_in_order.ensures.has
    first i h false e = c.put_in_order.ensures.part i (c.loop-number.invariant.first i (grind (arith, nat_tests)))
