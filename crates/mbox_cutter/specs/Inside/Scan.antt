-- The state of a scan, which finds the steps of a cutter, and how a step changes it.
use Rattle.std.specs.Prelude.{◌≡◌, ℕ, ◌+◌, ◌<◌, ◌≤◌, Bool, ◌||◌, nat_eq, take, drop, List, Option, Result}
use Rattle.std.specs.Prelude.{IfOk, IfErr, IfSome}
use Rattle.std.specs.Io.KnownBytes.{IsAtEnd}
use Rattle.contract_words.specs.Devices.{Counted}
use Rattle.mbox_cutter.specs.declared.event.CutFault.{CutFault}
use Rattle.mbox_cutter.specs.declared.event.CutFault.TheVariants.{Device, NotAnMbox, ArchiveTooLong, Failed}
use Rattle.mbox_cutter.specs.declared.event.Event.{Event}
use Rattle.mbox_cutter.specs.declared.device.Source.{Ghosts}
use Rattle.mbox_cutter.specs.declared.scan.Phase.{Phase}
use Rattle.mbox_cutter.specs.declared.scan.Phase.TheVariants as phase
use Rattle.mbox_cutter.specs.declared.scan.Scan.{Scan}
use Rattle.mbox_cutter.specs.Lines.{first_length}
use Rattle.mbox_cutter.specs.Separators.{is_separator}
use Rattle.mbox_cutter.specs.Events.{ComingEvents}
use Rattle.mbox_cutter.specs.Coming.{AnswersAsComing, is_device_fault}
use Rattle.mbox_cutter.specs.Places.{CutterPlace, HasLine, Moves}
use Rattle.mbox_cutter.specs.Progress.{event_with_line, result_with_line}
use Rattle.contract_words.specs.Knowledge.{still_known}
use Rattle.mbox_cutter.specs.Sources.{Stays}
use Rattle.mbox_cutter.specs.LineReaders.{known_bytes, known_until}
use Rattle.mbox_cutter.specs.Inside.Ahead.{IsLineLength, ReadsOn, TakesLine}
use Rattle.mbox_cutter.specs.Inside.Resume.{coming_at}

-- inside a message, its separator and the bytes of its text so far have been taken
abbrev pub IsWithin : Phase → ℕ → Type 0
IsWithin phase.Between at = Unit {0}
IsWithin (phase.Inside start size) at = start + size < at
IsWithin phase.Ended at = Unit {0}
IsWithin phase.Failed at = Unit {0}

-- a place that a cutter can be in
pub record IsPlace (p : CutterPlace) : Type 0 where
  -- no more was taken than is allowed
  pub most : p.offset ≤ p.most
  -- the part of a message so far is in what was taken
  pub phase : IsWithin p.phase p.offset

-- why the first line isn't found: the source has failed, or the line goes over the limit
abbrev pub FailsFirst : ℕ → ℕ → Option (List ℕ) → CutFault → Type 0
FailsFirst at most bytes Device = Unit {0}
FailsFirst at most bytes NotAnMbox = ⊥
FailsFirst at most bytes ArchiveTooLong = IfSome bytes (λ b. most < at + first_length b)
FailsFirst at most bytes Failed = ⊥

-- the fault isn't Failed
abbrev pub IsFresh : CutFault → Type 0
IsFresh Device = Unit {0}
IsFresh NotAnMbox = Unit {0}
IsFresh ArchiveTooLong = Unit {0}
IsFresh Failed = ⊥

-- whether a separator or the end comes after n bytes
abbrev pub closes_at : ℕ → List ℕ → Bool
closes_at n b = let m = first_length (drop n b) in nat_eq m 0 || is_separator (take m (drop n b))

module _ {S : Type 0} where
  -- the place of a scan
  abbrev pub place_of : Scan S → CutterPlace
  place_of s = record { phase = s.phase; offset = s.offset; most = s.most }

  -- what still comes, if the bytes are known
  abbrev pub coming_events : (S → Option (List ℕ)) → Scan S → Option ComingEvents
  coming_events rest s = coming_at (place_of s) (known_bytes rest s.reader)

  -- what holds of a scan after each step
  pub record IsScan (rest : S → Option (List ℕ)) (s : Scan S) : Type 0 where
    -- it is at a place that a cutter can be in
    pub place : IsPlace (place_of s)
    -- after the archive's end was reported, all bytes have been read
    pub end : s.phase ≡ phase.Ended → IsAtEnd (rest s.reader.source.now)

module _ {S : Type 0} (g : Ghosts S) where
  -- a call finds the length of the first line, or why there is none; the scan stays in its place
  pub record FindsLine (old : Scan S) (result : Result ℕ CutFault) (new : Scan S) : Type 0 where
    -- nothing is taken
    pub place : place_of new ≡ place_of old
    -- more may be read
    pub reads : ReadsOn g (is_device_fault result) old.reader new.reader
    -- the length is that of the first line, and 0 at the end
    pub first : IfOk result (λ n. IsLineLength g 0 old.reader new.reader n)
    -- the line ends within the limit
    pub fits : IfOk result (λ n. old.offset + n ≤ old.most)
    -- a fault is that of the source, or the line goes over the limit
    pub fails : IfErr result (λ fault. FailsFirst old.offset old.most (known_until g.rest old.reader new.reader) fault)

  -- how a step with this result changes a scan
  pub record Steps (old : Scan S) (result : Result Event CutFault) (new : Scan S) : Type 0 where
    -- the source is the same
    pub source : new.reader.source.ghost_name ≡ old.reader.source.ghost_name
    -- its count of failures rises by one if it failed, and stays if it didn't
    pub count : Counted (is_device_fault result) (g.failures old.reader.source.now) (g.failures new.reader.source.now)
    -- what no read changes stays as it was
    pub stays : Stays g old.reader.source.now new.reader.source.now
    -- what holds of a scan still holds
    pub scan : IsScan g.rest new
    -- the limit stays
    pub most : new.most ≡ old.most
    -- if it is known what comes, the event is the first that comes, and a refusal is the archive's
    pub answers : AnswersAsComing (still_known (coming_events g.rest old) (g.rest new.reader.source.now))
        (result_with_line new.reader.line result) (coming_events g.rest new)
    -- the place moves as the event says
    pub moves : IfOk result (λ e. Moves (event_with_line new.reader.line e) (place_of old) (place_of new))
    -- the line of an event, if it has one, is a line
    pub line : IfOk result (λ e. HasLine (event_with_line new.reader.line e))
    -- a fault is that of this step, not of an earlier one
    pub fresh : IfErr result IsFresh

-- the next n bytes are taken, and this phase begins
pub record Passes {S : Type 0} (n : ℕ) (phase : Phase) (old new : Scan S) : Type 0 where
  -- the place is after them
  pub place : place_of new ≡ record { phase = phase; offset = old.offset + n; most = old.most }
  -- they are the line that was taken last
  pub taken : TakesLine n old.reader new.reader
