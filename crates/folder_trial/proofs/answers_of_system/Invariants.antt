-- The trial supposes nothing of the system's files: whatever is supposed of them, its calls are the same.
use Rattle.std.proofs.Common.{[]}
use Rattle.folder_trial.proofs.answers_of_system.Given as goal

abbrev pub ghost-new : goal.ghost-new
ghost-new a = ([], [])
