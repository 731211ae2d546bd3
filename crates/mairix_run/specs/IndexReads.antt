-- Which bytes of a file are read where an index is looked for.
use Rattle.std.specs.Prelude.{◌≡◌, ◌⊎◌, ℕ, Bool, true, false, List, take, Option, Some, IsSome}
use Rattle.mail_index.specs.Places.{least_size}
use Rattle.mail_index.specs.Faults.{IsFirstFaultOfFile}
use Rattle.mail_index.specs.declared.view.fault.IndexFault.{IndexFault}
use Rattle.mail_index.specs.declared.view.fault.IndexFault.TheVariants.{TooShort, BadMagic, BadVersion, BadDigest}
use Rattle.mail_index.specs.declared.view.fault.IndexFault.TheVariants.{BadLayout}
use Rattle.mairix_run.specs.declared.named_file.Reading.{Reading}
use Rattle.mairix_run.specs.declared.named_file.Reading.TheVariants.{Whole, Index, Magic}

-- whether the first 80 bytes of a file show this fault: that it is no index, or of an unknown version
abbrev pub seen_early : IndexFault → Bool
seen_early TooShort = true
seen_early BadMagic = true
seen_early BadVersion = true
seen_early BadDigest = false
seen_early (BadLayout section) = false

-- the first fault of the bytes is one of these
abbrev pub IsRefusedEarly : List ℕ → Type 0
IsRefusedEarly bytes = (fault : IndexFault) × (seen_early fault ≡ true) × IsFirstFaultOfFile bytes fault

-- What is read of a file with the bytes `all`: the first 80 bytes, if they show that it is no index, or of an unknown
-- version; otherwise all.
abbrev pub IsIndexRead : List ℕ → List ℕ → Type 0
IsIndexRead all bytes = (IsRefusedEarly all × (bytes ≡ take least_size all)) ⊎ ((¬ IsRefusedEarly all) × (bytes ≡ all))

-- what is read of a file with the bytes `all`, by how much of it is read
abbrev pub IsReadAs : Reading → List ℕ → List ℕ → Type 0
IsReadAs Whole all bytes = bytes ≡ all
IsReadAs Index all bytes = IsIndexRead all bytes
IsReadAs Magic all bytes = bytes ≡ take 8 all

-- the same of a source, if something is known of it after it was read
abbrev pub IsKnownRead : Reading → Option (List ℕ) → Option (List ℕ) → List ℕ → Type 0
IsKnownRead reading before after bytes = IsSome after → (all : List ℕ) × (before ≡ Some all)
    × IsReadAs reading all bytes
