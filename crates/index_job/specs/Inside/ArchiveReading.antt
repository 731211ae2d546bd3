-- An archive while it is indexed: what the cutter still gives of it, and what was gathered.
use Rattle.std.specs.Prelude.{Bool, ◌≡◌, ⊤, ℕ, ◌+◌, ◌<◌, ◌≤◌, List, [], ◌∷◌, ◌++◌, Option, None, Some, option_map}
use Rattle.std.specs.Prelude.{unwrap_or, length, Result, Ok, Err}
use Rattle.std.specs.Option.{option_map_or}
use Rattle.std.specs.Io.KnownBytes.{IsAtEnd}
use Rattle.mail_index.specs.Builders.{Draft}
use Rattle.mbox_cutter.specs.Archives as archives
use Rattle.mbox_cutter.specs.Archives.{text, size, span_length}
use Rattle.mbox_cutter.specs.declared.event.CutFault.{CutFault}
use Rattle.mbox_cutter.specs.declared.scan.Phase.TheVariants.{Between, Inside}
use Rattle.mbox_cutter.specs.Events.{ComingEvents, events_of, events_from_inside}
use Rattle.mbox_cutter.specs.Places.{CutterPlace, events_left}
use Rattle.mime_text.specs.declared.message_text.MessageText.{MessageText}
use Rattle.index_job.specs.declared.archive_reading.Ended.{Ended}
use Rattle.index_job.specs.declared.archive_reading.Heading.{Heading}
use Rattle.index_job.specs.declared.archive_reading.Heading.TheVariants.{Message, End}
use Rattle.index_job.specs.declared.archive_reading.ReadArchive.{ReadArchive}
use Rattle.index_job.specs.declared.job_fault.JobFault.{JobFault}
use Rattle.mail_index.specs.Limits.{most_in_archive}
use Rattle.index_job.specs.Inside.Gathering.{HasGathered}
use Rattle.index_job.specs.Indexing.{draft_with_terms, draft_with_messages, HasTooMany, RefusesTerms, IsReadyForMessage}
use Rattle.index_job.specs.Indexing.{IsJobFault}
use Rattle.index_job.specs.MessageTerms.{message_terms}

-- ---- what is to come

-- a message that is to come from an archive of `all` bytes, the messages after it, and why the archive is refused, if
-- it is
pub record Awaited : Type 0 where
  pub all : ℕ
  pub message : archives.Message
  pub later : List archives.Message
  pub refusal : Option CutFault

-- what is to come inside the message, if these lines of its text are left
abbrev pub coming_inside : Awaited → List (List ℕ) → ComingEvents
coming_inside w lines = record { events = events_from_inside w.all w.message lines w.later; refusal = w.refusal }

-- what is to come between messages, if these messages are left
abbrev pub coming_between : ℕ → List archives.Message → Option CutFault → ComingEvents
coming_between all ms refusal = record { events = events_of all ms; refusal = refusal }

-- what is to come of an archive with these messages; only the refusal, if the archive is refused and so has no messages
abbrev pub coming_ahead : ℕ → Option (List archives.Message) → Option CutFault → ComingEvents
coming_ahead all ms refusal = record { events = option_map_or (events_of all) ms []; refusal = refusal }

-- ---- the place of a cutter

-- the cutter is inside a message that begins at this offset
abbrev pub IsInsideMessage : ℕ → CutterPlace → Type 0
IsInsideMessage start place = (told_size : ℕ) × (place.phase ≡ Inside start told_size)

-- the cutter has read on, within its limit
pub record GoesFurther (old new : CutterPlace) : Type 0 where
  pub most : new.most ≡ old.most
  pub within : new.offset ≤ new.most
  pub later : old.offset ≤ new.offset
  pub nearer : events_left new < events_left old

-- the message that began at this offset has ended, and the cutter is after it
pub record HasEnded (start : ℕ) (ended : Ended) (new : CutterPlace) : Type 0 where
  pub between : new.phase ≡ Between
  pub smaller : ended.size < ended.length
  pub offset : new.offset ≡ start + ended.length

-- the cutter has come to a message that begins, or to the archive's end
abbrev pub IsHeading : Heading → CutterPlace → CutterPlace → Type 0
IsHeading (Message start) old new = (new.phase ≡ Inside start 0) × (old.offset ≤ start) × (start < new.offset)
    × (events_left new < events_left old)
IsHeading (End length) old new = (old.offset ≤ length) × (length ≤ new.most)

-- if the heading is the archive's end, all bytes have been read
abbrev pub ReadsToEnd : Heading → Option (List ℕ) → Type 0
ReadsToEnd (Message start) bytes = ⊤
ReadsToEnd (End length) bytes = IsAtEnd bytes

-- the heading is the next of what was to come: the first of the messages that are left, or the end if none is left
abbrev pub Heads : Heading → ℕ → Option (List archives.Message) → Option CutFault → Option ComingEvents → Type 0
Heads (Message start) all ms refusal new =
    (m : archives.Message) × (later : List archives.Message) × (ms ≡ Some (m ∷ later)) × (m.offset ≡ start)
    × (new ≡ Some (coming_inside (record { all = all; message = m; later = later; refusal = refusal }) (text m)))
Heads (End length) all ms refusal new = (ms ≡ Some []) × (length ≡ all) × (refusal ≡ None)

-- ---- what was gathered

-- of the message's text, these lines were gathered, and the rest is to come
pub record IsReading (draft : Draft) (w : Awaited) (lines rest : List (List ℕ)) (gathered : MessageText)
    (builder : Draft) (coming : Option ComingEvents) : Type 0 where
  pub so_far : HasGathered gathered builder draft lines
  pub whole : text w.message ≡ lines ++ rest
  pub comes : coming ≡ Some (coming_inside w rest)

-- the whole text was gathered, and what is to come is what follows the message
pub record HasReadAll (draft : Draft) (w : Awaited) (ended : Ended) (gathered : MessageText)
    (builder : Draft) (coming : Option ComingEvents) : Type 0 where
  pub whole : HasGathered gathered builder draft (text w.message)
  pub length : ended.length ≡ span_length w.message
  pub told_size : ended.size ≡ size w.message
  pub comes : coming ≡ Some (coming_between w.all w.later w.refusal)

-- the message that was to come is being read: its first lines were gathered, and the rest is to come
abbrev pub IsReadingSome : Draft → Awaited → MessageText → Draft → Option ComingEvents → Type 0
IsReadingSome draft w gathered builder coming = (lines rest : List (List ℕ))
    × IsReading draft w lines rest gathered builder coming

-- the message is added to the draft, or the fault is one of the message or of its archive
abbrev pub AddsMessage : {T : Type 0} → ℕ → Draft → Awaited → Result T JobFault → Draft → Option ComingEvents → Type 0
AddsMessage archive d w (Ok _) builder coming = (builder ≡ draft_with_messages archive (w.message ∷ []) d)
    × (coming ≡ Some (coming_between w.all w.later w.refusal))
AddsMessage archive d w (Err fault) builder coming =
    IsJobFault w.refusal (HasTooMany (draft_with_messages archive (w.message ∷ []) d)) fault

-- the archive with this number was read to its end, and only this end is still to be added: after all its messages, and
-- within the limit
pub record AwaitsEnd (number : ℕ) (rest : Option (List ℕ)) (bytes : ℕ) (builder : Draft) : Type 0 where
  pub end : IsAtEnd rest
  pub ready : IsReadyForMessage number bytes builder
  pub within : bytes ≤ most_in_archive

-- these messages of an archive with this many bytes are added to the draft, or the fault is one of theirs
abbrev pub AddsMessages : ℕ → Draft → ℕ → Option (List archives.Message) → Option CutFault → Result ReadArchive JobFault
    → Draft → Type 0
AddsMessages number d bytes ms refusal (Ok read) builder =
    (refusal ≡ None) × (builder ≡ draft_with_messages number (unwrap_or ms []) d)
    × (read.messages ≡ length (unwrap_or ms [])) × (read.length ≡ bytes)
AddsMessages number d bytes ms refusal (Err fault) builder =
    IsJobFault refusal (HasTooMany (draft_with_messages number (unwrap_or ms []) d)) fault

-- a fault inside the message: the draft has no room for its terms, the archive is refused, or the source or memory
-- failed
abbrev pub IsMessageFault : Draft → Awaited → JobFault → Type 0
IsMessageFault draft w fault = IsJobFault w.refusal
    (RefusesTerms (draft_with_terms (message_terms (text w.message)) draft)) fault

-- of an archive's messages, this many are done and added to the draft, and the others are to come
pub record HasDone (number : ℕ) (d : Draft) (all : ℕ) (ms : Option (List archives.Message)) (refusal : Option CutFault)
    (count : ℕ) (builder : Draft) (coming : Option ComingEvents) : Type 0 where
  pub done : List archives.Message
  pub rest : Option (List archives.Message)
  pub whole : ms ≡ option_map (λ later. done ++ later) rest
  pub counted : count ≡ length done
  pub added : builder ≡ draft_with_messages number done d
  pub comes : coming ≡ Some (coming_ahead all rest refusal)
