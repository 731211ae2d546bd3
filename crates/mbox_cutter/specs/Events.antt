-- The events of an archive: for each message its start, the lines of its text and its end; and then the archive's end.
use Rattle.std.specs.Prelude.{ℕ, ◌+◌, true, ◌&&◌, nat_lt, nat_le, if◌then◌else◌, List, [], ◌∷◌, ◌++◌, Option, None}
use Rattle.std.specs.Prelude.{Some, length, map}
use Rattle.std.specs.Option.{option_map_or}
use Rattle.mbox_cutter.specs.declared.event.CutFault.{CutFault}
use Rattle.mbox_cutter.specs.declared.event.CutFault.TheVariants.{NotAnMbox, ArchiveTooLong}
use Rattle.mbox_cutter.specs.Lines.{lines, is_empty}
use Rattle.mbox_cutter.specs.Archives.{Message, messages, marked_lines, is_refused, text, size, span_length}

-- An event. A start has the message's offset and separator. An end has the length of the span and the size of the text.
-- Done is the end of the archive, and has its length.
pub data ArchiveEvent : Type 0 where
  Start : ℕ → List ℕ → ArchiveEvent
  Line : List ℕ → ArchiveEvent
  End : ℕ → ℕ → ArchiveEvent
  Done : ℕ → ArchiveEvent

-- the events of these messages, and the end of an archive with this length
abbrev pub events_of : ℕ → List Message → List ArchiveEvent
events_of all [] = Done all ∷ []
events_of all (m ∷ ms) = Start m.offset m.separator ∷ map Line (text m) ++ End (span_length m) (size m) ∷ events_of all
    ms

-- the events from inside a message, with these lines of its text left, and these messages after it
abbrev pub events_from_inside : ℕ → Message → List (List ℕ) → List Message → List ArchiveEvent
events_from_inside all m ls ms = map Line ls ++ End (span_length m) (size m) ∷ events_of all ms

-- the events of an archive; there are none if it is refused
unfoldable pub events : List ℕ → List ArchiveEvent
events bytes = option_map_or (events_of (length bytes)) (messages bytes) []

-- the number of bytes up to the end of the first line that isn't empty
abbrev pub first_full_end : List (List ℕ) → ℕ
first_full_end [] = 0
first_full_end (line ∷ ls) = if is_empty line then length line + first_full_end ls else length line

-- The refusal of an archive, if at most `most` bytes are allowed. It is NotAnMbox if the first line that isn't empty is
-- no separator and ends within `most` bytes. If it isn't that, it is ArchiveTooLong if there are more than `most`
-- bytes.
unfoldable pub archive_refusal : ℕ → List ℕ → Option CutFault
archive_refusal most bytes =
    if is_refused (marked_lines true (lines bytes)) && nat_le (first_full_end (lines bytes)) most then Some NotAnMbox
    else if nat_lt most (length bytes) then Some ArchiveTooLong else None

-- the events that still come, and the refusal, if there is one
pub record ComingEvents : Type 0 where
  pub events : List ArchiveEvent
  pub refusal : Option CutFault

-- all that comes of an archive, from its beginning
abbrev pub coming_of : ℕ → List ℕ → ComingEvents
coming_of most bytes = record { events = events bytes; refusal = archive_refusal most bytes }
