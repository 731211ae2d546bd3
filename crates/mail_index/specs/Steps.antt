-- A count that stays at its greatest value.
use Rattle.std.specs.Prelude.{ℕ, ◌+◌, ◌-◌, ◌^◌, min, max}

-- the count with this many more steps, but at most the greatest value of a u64, and never lower than it was
abbrev pub add_steps : ℕ → ℕ → ℕ
add_steps old n = max old (min (old + n) (2 ^ 64 - 1))
