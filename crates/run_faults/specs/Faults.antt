-- The faults of a run: the exit status of each, and which of them come from the input, from a device, or from memory.
use Rattle.std.specs.Prelude.{◌≡◌, ◌≢◌, ⊤, ℕ, Bool, true, false, nat_eq, Option, None, Some, Result, Ok, Err}
use Rattle.mbox_cutter.specs.declared.event.CutFault.{CutFault}
use Rattle.mbox_cutter.specs.declared.event.CutFault.TheVariants.{Device, NotAnMbox, ArchiveTooLong, Failed}
use Rattle.mairix_options.specs.declared.command_line.UsageFault.{UsageFault}
use Rattle.mairix_options.specs.declared.command_line.UsageFault.TheVariants as usage
use Rattle.or_memory.specs.declared.or_memory.OrMemory.{OrMemory}
use Rattle.or_memory.specs.declared.or_memory.OrMemory.TheVariants.{Refused}
use Rattle.or_memory.specs.declared.or_memory.OrMemory.TheVariants as given
use Rattle.run_faults.specs.declared.fault.Fault.{Fault}
use Rattle.run_faults.specs.declared.fault.Fault.TheVariants as of
use Rattle.run_faults.specs.declared.fault.Fault.TheVariants.{Usage, Rc, Query, Archive, Index, OldIndex, Stale, Out}
use Rattle.run_faults.specs.declared.fault.Fault.TheVariants.{Memory, TooMany}

-- the exit status of a refused command line, and of help and version
abbrev pub status_of_usage : UsageFault → ℕ
status_of_usage usage.Help = 0
status_of_usage usage.Version = 0
status_of_usage usage.Parse = 2
status_of_usage usage.TwoFormats = 2

-- the exit status of a fault of an archive: too long 5; not readable, or no mbox 4
abbrev pub status_of_cut : CutFault → ℕ
status_of_cut ArchiveTooLong = 5
status_of_cut Device = 4
status_of_cut NotAnMbox = 4
status_of_cut Failed = 4

-- The exit status of a fault. It is 0 for help and version, 2 for the command line, the rcfile and the query, and 3 for
-- the index. It is 4 for a failed device and for an archive that isn't an mbox, and 5 for lack of memory and for too
-- much.
abbrev pub status_of_fault : Fault → ℕ
status_of_fault (Usage fault) = status_of_usage fault
status_of_fault (Rc fault) = 2
status_of_fault (Query fault) = 2
status_of_fault (Archive number fault) = status_of_cut fault
status_of_fault (Index fault) = 3
status_of_fault OldIndex = 3
status_of_fault (Stale number) = 3
status_of_fault of.Device = 4
status_of_fault Out = 4
status_of_fault Memory = 5
status_of_fault TooMany = 5

-- a refusal becomes a fault as `gives` says, and lack of memory becomes Memory
abbrev pub IsOrMemory : {E : Type 0} → (E → Fault → Type 0) → OrMemory E → Fault → Type 0
IsOrMemory gives (Refused refusal) fault = gives refusal fault
IsOrMemory gives given.Memory fault = fault ≡ Memory

-- the fault, if it comes from the command line, rcfile, query, archives or index; failures of a device or memory don't
abbrev pub refusal_of_fault : Fault → Option Fault
refusal_of_fault (Archive number Device) = None
refusal_of_fault of.Device = None
refusal_of_fault Out = None
refusal_of_fault Memory = None
refusal_of_fault fault = Some fault

-- the fault that a call returned, if it failed
abbrev pub fault_in : {T : Type 0} → Result T Fault → Option Fault
fault_in (Ok x) = None
fault_in (Err fault) = Some fault

-- whether the source with number n failed
abbrev pub is_failed_source : ℕ → Option Fault → Bool
is_failed_source n (Some (Archive number Device)) = nat_eq n number
is_failed_source n _ = false

-- whether the output failed
abbrev pub is_failed_out : Option Fault → Bool
is_failed_out (Some Out) = true
is_failed_out _ = false

-- whether an archive couldn't be read for the answer
abbrev pub is_failed_archives : Option Fault → Bool
is_failed_archives (Some of.Device) = true
is_failed_archives _ = false

-- whether a device or memory failed
abbrev pub is_failure : Option Fault → Bool
is_failure (Some (Archive number Device)) = true
is_failure (Some of.Device) = true
is_failure (Some Out) = true
is_failure (Some Memory) = true
is_failure _ = false

-- whether the command line, the rcfile or the query is refused
abbrev pub is_early : Option Fault → Bool
is_early (Some (Usage fault)) = true
is_early (Some (Rc fault)) = true
is_early (Some (Query fault)) = true
is_early _ = false

-- whether memory ran out
abbrev pub is_memory : Option Fault → Bool
is_memory (Some Memory) = true
is_memory _ = false

-- a fault of reading the command line, the rcfile and the query: one of them is refused, or memory ran out
abbrev pub IsEarly : Fault → Type 0
IsEarly (Usage fault) = ⊤
IsEarly (Rc fault) = ⊤
IsEarly (Query fault) = ⊤
IsEarly Memory = ⊤
IsEarly _ = ⊥

-- whether an archive is refused or couldn't be read for an index, or all together are too much
abbrev pub is_of_indexing : Option Fault → Bool
is_of_indexing (Some (Archive number fault)) = true
is_of_indexing (Some TooMany) = true
is_of_indexing _ = false

-- whether an archive has changed since it was indexed, or couldn't be read for the answer
abbrev pub is_changed_or_unread : Option Fault → Bool
is_changed_or_unread (Some (Stale number)) = true
is_changed_or_unread (Some of.Device) = true
is_changed_or_unread _ = false

-- whether the index is refused, because it isn't an index file or is too old
abbrev pub is_of_index : Option Fault → Bool
is_of_index (Some (Index fault)) = true
is_of_index (Some OldIndex) = true
is_of_index _ = false

-- a fault that a search of an index can have
abbrev pub IsOfAnswer : Fault → Type 0
IsOfAnswer (Stale number) = ⊤
IsOfAnswer of.Device = ⊤
IsOfAnswer Out = ⊤
IsOfAnswer Memory = ⊤
IsOfAnswer _ = ⊥

-- a fault that indexing can have; Failed isn't among them, because a source that failed is never read again
abbrev pub IsOfIndexing : Fault → Type 0
IsOfIndexing (Archive number fault) = fault ≢ Failed
IsOfIndexing TooMany = ⊤
IsOfIndexing Memory = ⊤
IsOfIndexing _ = ⊥

-- ---- the faults of whole runs

-- a fault of a search that indexes the archives itself: none is of an index, and a source that failed is never read
-- again
abbrev pub IsOnceFault : Fault → Type 0
IsOnceFault (Archive number fault) = fault ≢ Failed
IsOnceFault (Index fault) = ⊥
IsOnceFault OldIndex = ⊥
IsOnceFault _ = ⊤

-- a fault of a search of a stored index: it indexes no archive, so it has none of indexing
abbrev pub IsSearchFault : Fault → Type 0
IsSearchFault (Archive number fault) = ⊥
IsSearchFault TooMany = ⊥
IsSearchFault _ = ⊤
