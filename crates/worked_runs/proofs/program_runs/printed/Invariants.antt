-- The test supposes nothing of the system's files: whatever is supposed of them, the calls of a run are the same.
use Rattle.std.proofs.Common.{[]}
use Rattle.worked_runs.proofs.program_runs.printed.Given as goal

abbrev pub ghost-new : goal.ghost-new
ghost-new a = ([], [])
