-- A new source supposes the bytes that its reader has, if these are known.
use Rattle.std.proofs.Common.{[]}
use Rattle.std.specs.Option.{unwrap_or}
use Rattle.mbox_cutter.proofs.std_io.FromRead.new.Given as goal

-- a source supposes what the reader has, if that is known
abbrev pub ghost-supposing : goal.ghost-supposing
ghost-supposing g a = unwrap_or (g.R.Read.remaining a.reader) []
