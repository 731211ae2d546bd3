-- A run begins without calls.
use Rattle.std.specs.Prelude.{[]}
use Rattle.mairix_files.proofs.kit_calls.KitCalls.new.Given as goal

-- no calls
abbrev pub ghost-of : goal.ghost-of
ghost-of a = []
