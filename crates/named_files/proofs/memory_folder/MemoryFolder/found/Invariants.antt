-- What was found so far is what the name leads to after the steps so far.
use Rattle.std.proofs.Common.{◌≡◌, take}
use Rattle.std.specs.Option.{option_map_or}
use Rattle.named_files.specs.Logs.{held_after_changes}
use Rattle.named_files.specs.MemoryFolders.{changes_of, held_of, held_nothing, nothing_first}
use Rattle.named_files.proofs.memory_folder.MemoryFolder.found.Given as goal

abbrev pub invariant-loop-step : goal.invariant-loop-step
invariant-loop-step l =
    option_map_or (λ found. held_of found.now) l.found held_nothing
    ≡ held_after_changes nothing_first (changes_of (take l.step-index l.self.steps.items)) l.name
