-- A folder in memory, by what was done to it.
use Rattle.std.specs.Prelude.{ℕ, true, false, List, map, reverse}
use Rattle.std.specs.String.{string_bytes}
use Rattle.named_files.specs.declared.memory_folder.MemoryFolder.{MemoryFolder}
use Rattle.named_files.specs.declared.memory_folder.item.Item.{Item}
use Rattle.named_files.specs.declared.memory_folder.item.Item.TheVariants as item
use Rattle.named_files.specs.declared.memory_folder.step.Found.{Found}
use Rattle.named_files.specs.declared.memory_folder.step.Step.{Step}
use Rattle.named_files.specs.declared.memory_folder.step.Step.TheVariants as step
use Rattle.named_files.specs.Entries.{Entry, Nothing, File, Folder, Other}
use Rattle.named_files.specs.Logs.{Held, Change, Named, Synced, held_after_changes}

abbrev pub entry_of_item : Item → Entry
entry_of_item item.Nothing = Nothing
entry_of_item (item.File bytes) = File bytes.items
entry_of_item item.Folder = Folder
entry_of_item item.Other = Other

abbrev pub held_of : Found → Held
held_of found = record { entry = entry_of_item found.item; is_on_disk = found.is_on_disk; is_left = found.is_left }

abbrev pub change_of : Step → Change
change_of (step.Named name found) = Named (string_bytes name) (held_of found)
change_of (step.Synced name) = Synced (string_bytes name)

-- what was done, the newest first
abbrev pub changes_of : List Step → List Change
changes_of steps = map change_of (reverse steps)

-- nothing has the name
abbrev pub held_nothing : Held
held_nothing = record { entry = Nothing; is_on_disk = true; is_left = false }

-- at first nothing has a name
abbrev pub nothing_first : List ℕ → Held
nothing_first n = held_nothing

-- what a name leads to
abbrev pub held_in : MemoryFolder → List ℕ → Held
held_in folder n = held_after_changes nothing_first (changes_of folder.steps.items) n
