-- Why a call was refused, and whether a file has its name.
use Rattle.std.specs.Prelude.{⊤, Bool, true, false, Result, Ok, Err}
use Rattle.named_files.specs.declared.refusal.Refusal.{Refusal}
use Rattle.named_files.specs.declared.refusal.Refusal.TheVariants.{Memory, Refused}
use Rattle.named_files.specs.declared.name_fault.NameFault.{NameFault}
use Rattle.named_files.specs.declared.name_fault.NameFault.TheVariants.{NotNamed, NotSynced}

-- what the system refused has this cause; lack of memory needs none
abbrev pub HasCause : Refusal → Type 0 → Type 0
HasCause Memory Cause = ⊤
HasCause Refused Cause = Cause

-- the refusal by which a file didn't take its name for good
abbrev pub refusal_of_name : NameFault → Refusal
refusal_of_name (NotNamed why) = why
refusal_of_name (NotSynced why) = why

-- whether a file has its name: also if only the name couldn't be brought to the disk
abbrev pub has_name : Result (Unit {0}) NameFault → Bool
has_name (Ok done) = true
has_name (Err (NotNamed why)) = false
has_name (Err (NotSynced why)) = true
