-- `offset_of` returns the offset in digits or that of a name, because both are numbers of 32 bits.
use Rattle.mail_dates.proofs.Words.{◌≡◌, ◌<◌, ◌*◌, ℕ, ℤ, pos, neg_ℤ, ◌-ℤ◌, ◌*ℤ◌, of_z, to_z, w32, arith, ◌∙◌, ints, offset_of}
use Rattle.mail_dates.proofs.zone.offset_of.Goals as goal

west : (hours : ℕ) (z : ℤ) → hours < 9 → z ≡ pos hours
    → to_z w32 (of_z w32 (pos 0 -ℤ to_z w32 (of_z w32 (to_z w32 (of_z w32 z) *ℤ pos 3600))))
    ≡ neg_ℤ (pos (hours * 3600))
west hours z few e = omega (arith, ints)

pub returns-in-Some : goal.returns-in-Some
unfolding offset_of
returns-in-Some c =
    grind arith

pub returns-in-None : goal.returns-in-None
unfolding offset_of
returns-in-None c =
    grind (arith, west)
