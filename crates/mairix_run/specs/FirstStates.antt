-- When a run has an answer, by the words of its plan and by its ending.
use Rattle.std.specs.Prelude.{◌≡◌, false, ⊤, Result, Ok}
use Rattle.mairix_options.specs.declared.command_line.Plan.{Plan}
use Rattle.mairix_run.specs.Stops.{Ending}
use Rattle.mairix_run.specs.Stops.Ending.{Done}
use Rattle.mairix_run.specs.Tasks.{is_index_run}

-- this is so of a search that has ended with a status of its own: it has an answer
abbrev pub OnAnswer : {E : Type 0} → Result Plan E → Ending → Type 0 → Type 0
OnAnswer (Ok plan) (Done status) P = is_index_run plan ≡ false → P
OnAnswer _ _ P = ⊤
