-- The moment of the system's clock.
use Rattle.std.specs.Prelude.{ℕ, ◌/◌, nat_lt, if◌then◌else◌, Result, Ok, Err}
use Rattle.std.specs.Time.{system_time_nanos}
use Rattle.std.specs.declared.time.SystemTime.{SystemTime}

-- the second, counted from 1970, if it is in the years up to 9999; otherwise 0
abbrev pub second_within : ℕ → ℕ
second_within second = if nat_lt second 253402300800 then second else 0

-- the second of a clock; 0 if it can't be read
abbrev pub second_shown : {E : Type 0} → Result SystemTime E → ℕ
second_shown (Ok time) = second_within (system_time_nanos time / 1000000000)
second_shown (Err why) = 0
