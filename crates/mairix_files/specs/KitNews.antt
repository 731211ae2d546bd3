-- The bytes of a new file.
use Rattle.std.specs.Prelude.{ℕ, List, ◌++◌}
use Rattle.call_record.specs.declared.record.Record.{Record}
use Rattle.call_record.specs.Calls.{taken_after}

-- all bytes that were put into a file: those that it took by these writes, and then those that are gathered
abbrev pub bytes_put : Record → List ℕ → List ℕ
bytes_put noted gathered = taken_after noted.calls ++ gathered
