-- A stream in memory by its fields.
use Rattle.std.specs.Prelude.{◌≤◌, length}
use Rattle.mairix_run.specs.Streams.{Gathering}
use Rattle.mairix_run.specs.declared.memory_stream.MemoryStream.TheInside.{Inside}

-- its state
abbrev pub gathering : Inside → Gathering
gathering s = record { taken = s.bytes.items; handed_on = s.handed_on; failures = s.failures }

-- it has handed on only what it has taken
abbrev pub HandsOnOnlyTaken : Inside → Type 0
HandsOnOnlyTaken s = s.handed_on ≤ length s.bytes.items
