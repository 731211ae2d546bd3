-- How a call of a cutter changes what still comes, if that is known. An event is the first that comes, a refusal is
-- that of the archive, and a failed device says nothing of either.
use Rattle.std.specs.Prelude.{◌≡◌, Bool, true, false, [], ◌∷◌, Option, Result, None, Some, Ok, Err, IfSome}
use Rattle.mbox_cutter.specs.declared.event.CutFault.{CutFault}
use Rattle.mbox_cutter.specs.declared.event.CutFault.TheVariants.{Device, NotAnMbox, ArchiveTooLong, Failed}
use Rattle.mbox_cutter.specs.Events.{ArchiveEvent, Start, Line, End, Done, ComingEvents}

-- the event is the first that comes, and the others come after it; Done comes only if nothing is refused, and comes
-- again after itself
abbrev pub TakesEvent : ArchiveEvent → ComingEvents → ComingEvents → Type 0
TakesEvent (Start at line) old new = (old.events ≡ Start at line ∷ new.events) × (new.refusal ≡ old.refusal)
TakesEvent (Line line) old new = (old.events ≡ Line line ∷ new.events) × (new.refusal ≡ old.refusal)
TakesEvent (End span size) old new = (old.events ≡ End span size ∷ new.events) × (new.refusal ≡ old.refusal)
TakesEvent (Done all) old new = (old.events ≡ Done all ∷ []) × (old.refusal ≡ None) × (new ≡ old)

-- the same, if it is known what comes
abbrev pub TakesKnown : ArchiveEvent → Option ComingEvents → Option ComingEvents → Type 0
TakesKnown event old new = IfSome old (λ before. (after : ComingEvents) × (new ≡ Some after)
    × TakesEvent event before after)

-- a refusal is the one that comes; a failed device, and a call after a fault, say nothing of it
abbrev pub IsRefusalToCome : CutFault → ComingEvents → Type 0
IsRefusalToCome NotAnMbox coming = coming.refusal ≡ Some NotAnMbox
IsRefusalToCome ArchiveTooLong coming = coming.refusal ≡ Some ArchiveTooLong
IsRefusalToCome Device coming = Unit {0}
IsRefusalToCome Failed coming = Unit {0}

-- if it is known what comes, an event is the first that comes, and a refusal is the one that comes
abbrev pub AnswersAsComing : Option ComingEvents → Result ArchiveEvent CutFault → Option ComingEvents → Type 0
AnswersAsComing old (Ok event) new = TakesKnown event old new
AnswersAsComing old (Err fault) new = IfSome old (IsRefusalToCome fault)

-- whether the fault is that the source failed
abbrev pub is_device : CutFault → Bool
is_device Device = true
is_device NotAnMbox = false
is_device ArchiveTooLong = false
is_device Failed = false

-- whether a call has failed because the source did
abbrev pub is_device_fault : {T : Type 0} → Result T CutFault → Bool
is_device_fault (Ok x) = false
is_device_fault (Err fault) = is_device fault
