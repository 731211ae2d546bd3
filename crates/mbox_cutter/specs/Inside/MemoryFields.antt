-- The fields of devices in memory, and the states that they mean.
use Rattle.std.specs.Prelude.{◌<◌, ◌≤◌, drop, length}
use Rattle.mbox_cutter.specs.declared.memory.MemorySource.TheInside as source
use Rattle.mbox_cutter.specs.declared.memory.MemoryOut.TheInside as out
use Rattle.mbox_cutter.specs.Memory.{Giving, Taking}

-- the state of a source
abbrev pub giving : source.Inside → Giving
giving s = record { rest = drop s.at s.bytes.items; piece = s.piece; fail_at = s.fail_at; failures = s.failures }

-- what always holds of a source's fields
pub record IsGiving (s : source.Inside) : Type 0 where
  pub inside : s.at ≤ length s.bytes.items
  pub some : 0 < s.piece

-- the state of an output
abbrev pub taking : out.Inside → Taking
taking s = record { taken = s.bytes.items; room = s.room; failures = s.failures }
