-- A new record supposes the bytes that the caller supposes, and has no calls.
use Rattle.std.specs.Prelude.{[]}
use Rattle.call_record.proofs.record.Record.new.Given as goal

-- these bytes and no calls
abbrev pub ghost-of : goal.ghost-of
ghost-of g a = (g.bytes, [])
