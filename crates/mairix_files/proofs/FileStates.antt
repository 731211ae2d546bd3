-- Two states are the same if `==` says so, because it compares each of their fields.
use Rattle.std.proofs.Common.{◌≡◌, ◌&&◌, ℕ, ℤ, Bool, true, false, nat_eq, refl, arith}
use Rattle.std.specs.Ordering.{int_eq}
use Rattle.std.proofs.lemmas.Bool.Decides.{nat_tests, Decides-int_eq}
use Rattle.mairix_files.specs.declared.file_state.FileState.{FileState}

both : (a b : Bool) → (a && b) ≡ true → (a ≡ true) × (b ≡ true)
both true true h = (refl, refl)
both true false h = cc
both false b h = cc

same_nat : (x y : ℕ) → nat_eq x y ≡ true → x ≡ y
same_nat x y h = grind (arith, nat_tests)

-- two times
same_time : (x y : ℤ × ℤ) → (int_eq x.0 y.0 && int_eq x.1 y.1) ≡ true → x ≡ y
same_time x y h =
    let each = both _ _ h in λ i. ((Decides-int_eq x.0 y.0).0 each.0 i, (Decides-int_eq x.1 y.1).0 each.1 i)

pub same_state : (a b : FileState)
    → (nat_eq a.device b.device && (nat_eq a.inode b.inode && (nat_eq a.length b.length
    && ((int_eq a.written.0 b.written.0 && int_eq a.written.1 b.written.1)
    && (int_eq a.changed.0 b.changed.0 && int_eq a.changed.1 b.changed.1))))) ≡ true → a ≡ b
same_state a b h =
    let device = both _ _ h in
    let inode = both _ _ device.1 in
    let long = both _ _ inode.1 in
    let times = both _ _ long.1 in
    λ i. record {
      device = same_nat a.device b.device device.0 i;
      inode = same_nat a.inode b.inode inode.0 i;
      length = same_nat a.length b.length long.0 i;
      written = same_time a.written b.written times.0 i;
      changed = same_time a.changed b.changed times.1 i;
    }
