-- A flush that succeeds hands on all that was taken.
use Rattle.call_record.specs.Calls.{taken_after}
use Rattle.mairix_run.proofs.writer_stream.WriterStreamStream.flush.Given as goal

-- what was taken
abbrev pub ghost-all_noted : goal.ghost-all_noted
ghost-all_noted g a = taken_after a._noted.now.calls
