-- Nothing was taken or handed on, and nothing is supposed to be read.
use Rattle.std.specs.Prelude.{[]}
use Rattle.call_record.specs.Calls.{taken_after}
use Rattle.mairix_run.proofs.writer_stream.WriterStream.new.Given as goal

-- no bytes are supposed
abbrev pub ghost-new : goal.ghost-new
ghost-new g a = []

-- what was taken
abbrev pub ghost-all_noted : goal.ghost-all_noted
ghost-all_noted g a = taken_after a._noted.now.calls
