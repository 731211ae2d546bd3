-- Which files a new index replaces.
use Rattle.std.specs.Prelude.{◌≡◌, ℕ, nat_eq, ◌==◌, Bool, true, false, not, ◌||◌, List, length}
use Rattle.std.specs.List.{starts_with}
use Rattle.std.specs.String.{string_bytes}
use Rattle.mail_index.specs.Files.{magic}
use Rattle.named_files.specs.Entries.{Entry, Nothing, File, Folder, Other}
use Rattle.run_faults.specs.declared.fault.Fault.TheVariants.{Memory}
use Rattle.mairix_run.specs.declared.stopped.Stopped.{Stopped}
use Rattle.mairix_run.specs.declared.stopped.Stopped.TheVariants as by

-- whether a new index may take the place of these bytes: there are none, or they begin with the magic of an index
abbrev pub is_replaceable : List ℕ → Bool
is_replaceable bytes = (length bytes == 0) || starts_with nat_eq bytes magic

-- whether a name leads to a file whose place no new index may take
abbrev pub is_foreign : Entry → Bool
is_foreign Nothing = false
is_foreign (File bytes) = not (is_replaceable bytes)
is_foreign Folder = false
is_foreign Other = false

-- the run is stopped at this name for a cause, or for lack of memory
abbrev pub IsNotReplaced : List ℕ → Type 0 → Stopped → Type 0
IsNotReplaced name Cause (by.CannotOpen path) = (string_bytes path ≡ name) × Cause
IsNotReplaced name Cause (by.Fault fault) = fault ≡ Memory
