-- The state of a cutter as its callers see it, and how a call changes it. Events defines what comes of an archive. A
-- caller who follows a cutter to its end needs `answers` and `ends`, and `moves` and `nears` if bytes aren't known.
use Rattle.std.specs.Prelude.{◌≡◌, ℕ, ◌≤◌, List, Option, Result, Ok, Err, IfOk, OnErr}
use Rattle.std.specs.Borrow.{MutBor}
use Rattle.contract_words.specs.Devices.{Counted}
use Rattle.mbox_cutter.specs.declared.device.Source.{Ghosts}
use Rattle.mbox_cutter.specs.declared.event.CutFault.{CutFault}
use Rattle.mbox_cutter.specs.declared.event.Event.{Event}
use Rattle.mbox_cutter.specs.declared.event.Event.TheVariants as event
use Rattle.mbox_cutter.specs.declared.scan.Phase.TheVariants.{Failed}
use Rattle.mbox_cutter.specs.Events.{ArchiveEvent, Start, Line, End, Done, ComingEvents}
use Rattle.mbox_cutter.specs.Coming.{AnswersAsComing, is_device_fault}
use Rattle.mbox_cutter.specs.Places.{CutterPlace, Moves, Nears, ReadsAll}
use Rattle.contract_words.specs.Knowledge.{still_known}
use Rattle.mbox_cutter.specs.Sources.{Stays}

-- the state: what still comes, if the source's bytes are known; the place in the archive; the line that was taken last;
-- and the source
pub record Progress (S : Type 0) : Type 0 where
  pub coming : Option ComingEvents
  pub place : CutterPlace
  pub line : List ℕ
  pub source : MutBor S

-- an event, with the line that was taken last
abbrev pub event_with_line : List ℕ → Event → ArchiveEvent
event_with_line line (event.Start at) = Start at line
event_with_line line event.Line = Line line
event_with_line line (event.End span size) = End span size
event_with_line line (event.Done all) = Done all

-- the result of a call, with the line that was taken last
abbrev pub result_with_line : List ℕ → Result Event CutFault → Result ArchiveEvent CutFault
result_with_line line (Ok e) = Ok (event_with_line line e)
result_with_line line (Err fault) = Err fault

-- how a call with this result changes a cutter
pub record Advances {S : Type 0} (g : Ghosts S) (old : Progress S) (result : Result Event CutFault)
    (new : Progress S) : Type 0 where
  -- the source is the same
  pub source : new.source.ghost_name ≡ old.source.ghost_name
  -- its count of failures rises by one if it failed, and stays if it didn't
  pub count : Counted (is_device_fault result) (g.failures old.source.now) (g.failures new.source.now)
  -- what no read changes stays as it was
  pub stays : Stays g old.source.now new.source.now
  -- if it is known what comes, an event is the first that comes, and a refusal is the archive's
  pub answers : AnswersAsComing (still_known old.coming (g.rest new.source.now)) (result_with_line new.line result)
      new.coming
  -- events come in order, and their offsets, lengths and sizes fit what was taken, whether bytes are known or not
  pub moves : IfOk result (λ e. Moves (event_with_line new.line e) old.place new.place)
  -- fewer events are left, so they end
  pub nears : IfOk result (λ e. Nears (event_with_line new.line e) old.place new.place)
  -- after a fault each call fails
  pub fails : OnErr result (new.place.phase ≡ Failed)
  -- the limit stays
  pub most : new.place.most ≡ old.place.most
  -- no more was taken than is allowed
  pub within : new.place.offset ≤ new.place.most
  -- at the archive's end all bytes have been read
  pub ends : IfOk result (λ e. ReadsAll (event_with_line new.line e) (g.rest new.source.now))
