-- The place of a cutter in an archive, and how an event moves it, whatever bytes the archive has.
use Rattle.std.specs.Prelude.{◌≡◌, ◌⊎◌, ℕ, ◌+◌, ◌-◌, ◌*◌, ◌<◌, ◌≤◌, Bool, true, false, List, length, Option}
use Rattle.std.specs.Io.KnownBytes.{IsAtEnd}
use Rattle.mbox_cutter.specs.declared.scan.Phase.{Phase}
use Rattle.mbox_cutter.specs.declared.scan.Phase.TheVariants.{Between, Inside, Ended, Failed}
use Rattle.mbox_cutter.specs.Lines.{IsLine}
use Rattle.mbox_cutter.specs.Events.{ArchiveEvent, Start, Line, End, Done}

-- The phase is between messages, inside one, at the end, or after a fault. Inside a message it has the offset of its
-- start, and how many bytes of its text were reported. `offset` is the number of bytes taken so far, of which `most`
-- are allowed.
pub record CutterPlace : Type 0 where
  pub phase : Phase
  pub offset : ℕ
  pub most : ℕ

-- whether the phase is that after a fault
abbrev pub is_failed : Phase → Bool
is_failed Between = false
is_failed (Inside start size) = false
is_failed Ended = false
is_failed Failed = true

-- a message starts: its offset isn't before the bytes taken so far, and its separator is taken
pub record Starts (at : ℕ) (line : List ℕ) (old new : CutterPlace) : Type 0 where
  pub was : old.phase ≡ Between
  pub now : new.phase ≡ Inside at 0
  pub later : old.offset ≤ at
  pub offset : new.offset ≡ at + length line

-- a line of the present message's text is taken
pub record TakesTextLine (line : List ℕ) (old new : CutterPlace) : Type 0 where
  pub start : ℕ
  pub size : ℕ
  pub was : old.phase ≡ Inside start size
  pub now : new.phase ≡ Inside start (size + length line)
  pub offset : new.offset ≡ old.offset + length line

-- the present message ends: its span ends with the bytes taken so far, and its size is that of its lines
pub record Ends (span size : ℕ) (old new : CutterPlace) : Type 0 where
  pub start : ℕ
  pub was : old.phase ≡ Inside start size
  pub now : new.phase ≡ Between
  pub smaller : size < span
  pub later : old.offset ≤ new.offset
  pub offset : new.offset ≡ start + span

-- the archive ends with the bytes taken so far
pub record Finishes (all : ℕ) (old new : CutterPlace) : Type 0 where
  pub was : (old.phase ≡ Between) ⊎ (old.phase ≡ Ended)
  pub now : new.phase ≡ Ended
  pub later : old.offset ≤ new.offset
  pub offset : new.offset ≡ all

-- an event moves a cutter from one place to another
abbrev pub Moves : ArchiveEvent → CutterPlace → CutterPlace → Type 0
Moves (Start at line) old new = Starts at line old new
Moves (Line line) old new = TakesTextLine line old new
Moves (End span size) old new = Ends span size old new
Moves (Done all) old new = Finishes all old new

-- the line of an event, if it has one, is a line
abbrev pub HasLine : ArchiveEvent → Type 0
HasLine (Start at line) = IsLine line
HasLine (Line line) = IsLine line
HasLine (End span size) = Unit {0}
HasLine (Done all) = Unit {0}

-- how many events can still come in a phase, without two for each byte that may still come, and without Done
abbrev pub open_events : Phase → ℕ
open_events Between = 1
open_events (Inside start size) = 2
open_events Ended = 0
open_events Failed = 0

-- how many events can still come at most, without Done
abbrev pub events_left : CutterPlace → ℕ
events_left p = 2 * (p.most - p.offset) + open_events p.phase

-- an event leaves fewer events to come; only Done may leave as many
abbrev pub Nears : ArchiveEvent → CutterPlace → CutterPlace → Type 0
Nears (Start at line) old new = events_left new < events_left old
Nears (Line line) old new = events_left new < events_left old
Nears (End span size) old new = events_left new < events_left old
Nears (Done all) old new = events_left new ≤ events_left old

-- at the archive's end all bytes have been read
abbrev pub ReadsAll : ArchiveEvent → Option (List ℕ) → Type 0
ReadsAll (Start at line) bytes = Unit {0}
ReadsAll (Line line) bytes = Unit {0}
ReadsAll (End span size) bytes = Unit {0}
ReadsAll (Done all) bytes = IsAtEnd bytes
