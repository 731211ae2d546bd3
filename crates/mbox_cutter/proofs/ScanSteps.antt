-- How the calls in a step change a scan, and each way in which a step can end.
use Rattle.mbox_cutter.proofs.Words.{still_known, IsSome, known_until, ◌≡◌, ℕ, ◌+◌, ◌-◌, ◌<◌, ◌≤◌, Bool, true, false, List, Option, Some, Result, Ok, Err, IfSome, IfOk, length, take, drop, sym, ◌∙◌, subst, arith, IsAtEnd, length-take-le, Ghosts, CutFault, NotAnMbox, Phase, Between, Inside, Ended, first_length, is_empty, IsLine, is_separator, Line, IsRefusalToCome, TakesEvent, is_device, CutterPlace, Moves, HasLine, known_bytes, ReadsOn, resume, closes_at, coming_events, place_of, event_with_line, IsPlace, IsWithin, ReadsSource, IsScan, IsFresh, FindsLine, Passes, Steps}
use Rattle.mbox_cutter.specs.declared.event.Event.{Event}
use Rattle.mbox_cutter.specs.declared.event.Event.TheVariants as event
use Rattle.mbox_cutter.specs.declared.scan.Scan.{Scan}
use Rattle.mbox_cutter.proofs.KnownSteps.{at_same, both, IsFirst, known-step}
use Rattle.mbox_cutter.proofs.Sources.{ReadsSource-none, ReadsSource-join}
use Rattle.mbox_cutter.proofs.Steps.{step-done, step-start, step-empty, step-refused, step-long, step-end, step-line, step-open, step-closed, step-long_inside, ended-stays}
use Rattle.mbox_cutter.proofs.LineReaders.{known_taken, line_taken, length-Extends, take-Extends, ReadsOn-join}

-- the place n bytes further, in this phase
abbrev further : Phase → ℕ → CutterPlace → CutterPlace
further phase n p = record { phase = phase; offset = p.offset + n; most = p.most }

-- ---- a first line

-- these n bytes are the first line, found and not taken yet
pub record Found {S : Type 0} (g : Ghosts S) (old now : Scan S) (n : ℕ) (line : List ℕ) : Type 0 where
  pub some : 0 < n
  pub place : place_of now ≡ place_of old
  pub reads : ReadsOn g false old.reader now.reader
  pub first : IfSome (known_until g.rest old.reader now.reader) (IsFirst n line)
  pub fits : old.offset + n ≤ old.most
  pub within : n ≤ length now.reader.unread
  pub is : take n now.reader.unread ≡ line
  pub is_line : IsLine line

-- the bytes have been taken, and this phase has begun
pub record Taken {S : Type 0} (g : Ghosts S) (old new : Scan S) (n : ℕ) (phase : Phase) (line : List ℕ) : Type 0 where
  pub some : 0 < n
  pub place : place_of new ≡ further phase n (place_of old)
  pub reads : ReadsSource g false old.reader.source new.reader.source
  pub moved : IfSome (known_until g.rest old.reader new.reader) (λ b. known_bytes g.rest new.reader ≡ Some (drop n b))
  pub first : IfSome (known_until g.rest old.reader new.reader) (IsFirst n line)
  pub fits : old.offset + n ≤ old.most
  pub is : new.reader.line ≡ line
  pub is_line : IsLine line
  pub size : length line ≡ n

module _ {S : Type 0} (g : Ghosts S) (old mid : Scan S) (n : ℕ) (line : List ℕ) where
  pub found : FindsLine g old (Ok n) mid → 0 < n → line ≡ take n mid.reader.unread → Found g old mid n line
  found f some is =
      let within : n ≤ length mid.reader.unread = omega arith in
      record {
        some = some;
        place = f.place;
        reads = f.reads;
        first = both (known_until g.rest old.reader mid.reader) (λ b. n ≡ first_length b) (λ b. line ≡ take n b)
            f.first.first
            (at_same (known_until g.rest old.reader mid.reader) (known_bytes g.rest mid.reader) (λ b. line ≡ take n b)
            f.reads.bytes
            (rw is (line_taken n mid.reader.unread (g.rest mid.reader.source.now) within)));
        fits = f.fits;
        within = within;
        is = sym is;
        is_line = subst IsLine (sym is) (f.first.line some);
      }

  -- a line that was found is still found after more has been read
  pub found-on : (far : Scan S) → Found g old mid n line → place_of far ≡ place_of mid
      → ReadsOn g false mid.reader far.reader → Found g old far n line
  found-on far h same r = record {
    some = h.some;
    place = same ∙ h.place;
    reads = ReadsOn-join g false old.reader mid.reader far.reader h.reads r;
    first = grind arith;
    fits = h.fits;
    within = grind (arith, length-Extends);
    is = grind (arith, take-Extends);
    is_line = h.is_line;
  }

  pub closes-known : (far new : Scan S) (is wanted : Bool) → new.reader.source ≡ far.reader.source →
      IfSome (known_until g.rest old.reader mid.reader) (λ b. known_bytes g.rest mid.reader ≡ Some b) →
      (IsSome (g.rest far.reader.source.now) → IsSome (g.rest mid.reader.source.now)) →
      IfSome (known_until g.rest mid.reader far.reader) (λ b. is ≡ closes_at n b) → is ≡ wanted →
      IfSome (known_until g.rest old.reader new.reader) (λ b. wanted ≡ closes_at n b)
  closes-known far new is wanted source same still h e =
      grind arith

  pub taken : (new : Scan S) (phase : Phase) → Found g old mid n line → Passes n phase mid new
      → Taken g old new n phase line
  taken new phase h p = grind (arith, at_same, known_taken, length-take-le)

-- an option has its own value
itself : {A B : Type 0} (o : Option A) (last : Option B) → IfSome (still_known o last) (λ x. o ≡ Some x)
itself o last = grind arith

-- ---- steps that report an event

-- a step that reports an event in a phase leaves the scan at this place
told-steps : {S : Type 0} (g : Ghosts S) (old new : Scan S) (was : Phase) (p : CutterPlace) (s : Event) (line : List ℕ)
    (P : List ℕ → Type 0) (left : List ℕ → List ℕ) →
    ReadsSource g false old.reader.source new.reader.source → place_of new ≡ p → new.reader.line ≡ line → old.phase
    ≡ was
    → p.most ≡ old.most → IsPlace p →
    (p.phase ≡ Ended → IsAtEnd (g.rest new.reader.source.now)) →
    IfSome (known_until g.rest old.reader new.reader) P
    → IfSome (known_until g.rest old.reader new.reader) (λ b. known_bytes g.rest new.reader ≡ Some (left b)) →
    ((b : List ℕ) → P b → TakesEvent (event_with_line line s) (resume was old.offset old.most b)
    (resume p.phase p.offset p.most (left b))) →
    Moves (event_with_line line s) (place_of old) p → HasLine (event_with_line line s) → Steps g old (Ok s) new
told-steps g old new was p s line P left reads at is before most place end h leaves takes moves lends =
    grind (arith, known-step)

-- steps that take a line
module _ {S : Type 0} (g : Ghosts S) (old new : Scan S) (n : ℕ) (line : List ℕ) where
  taken-steps : (was phase : Phase) (s : Event) (P : List ℕ → Type 0) → old.phase ≡ was → Taken g old new n phase line
      → IsWithin phase (old.offset + n) → (phase ≡ Ended → ⊥) →
      IfSome (known_until g.rest old.reader new.reader) P
      → ((b : List ℕ) → P b → TakesEvent (event_with_line line s) (resume was old.offset old.most b)
      (resume phase (old.offset + n) old.most (drop n b))) →
      Moves (event_with_line line s) (place_of old) (further phase n (place_of old)) → HasLine (event_with_line line s)
      → Steps g old (Ok s) new
  taken-steps was phase s P before t within not_ended h takes moves lends = grind (arith, told-steps)

  -- a message starts
  pub start-steps : (at : ℕ) → old.phase ≡ Between → at ≡ old.offset → is_separator line ≡ true
      → Taken g old new n (Inside at 0) line → Steps g old (Ok (event.Start at)) new
  start-steps at between is starts t = grind (arith, taken-steps, step-start)

  module _ (start size : ℕ) (inside : old.phase ≡ Inside start size) (was : IsScan g.rest old) where
    begun : start + size < old.offset
    begun = grind arith

    -- a line of the open message's text
    text-steps : (P : List ℕ → Type 0) → Taken g old new n (Inside start (size + n)) line
        → IfSome (known_until g.rest old.reader new.reader) P →
        ((b : List ℕ) → P b → TakesEvent (Line line) (resume (Inside start size) old.offset old.most b)
        (resume (Inside start (size + n)) (old.offset + n) old.most (drop n b))) →
        Steps g old (Ok event.Line) new
    text-steps P t h takes = grind (arith, taken-steps, begun)

    pub line-steps : is_empty line ≡ false → Taken g old new n (Inside start (size + n)) line
        → Steps g old (Ok event.Line) new
    line-steps full t = grind (arith, step-line)

    -- an empty line that doesn't end the message
    pub open-steps : is_empty line ≡ true → IfSome (known_until g.rest old.reader new.reader)
        (λ b. false ≡ closes_at n b) →
        Taken g old new n (Inside start (size + n)) line → Steps g old (Ok event.Line) new
    open-steps empty opens t = grind (arith, text-steps, both, step-open)

    -- the empty line that ends the message
    pub closed-steps : is_empty line ≡ true
        → IfSome (known_until g.rest old.reader new.reader) (λ b. true ≡ closes_at n b) →
        Taken g old new n Between line → Steps g old (Ok (event.End (new.offset - start) size)) new
    closed-steps empty closes t = grind (arith, begun, taken-steps, both, step-closed)

-- steps at the end of the archive
module _ {S : Type 0} (g : Ghosts S) (old mid : Scan S) (n : ℕ) (found_none : FindsLine g old (Ok n) mid) (none : n ≡ 0)
    (was : IsScan g.rest old) where
  none-steps : (before phase : Phase) (s : Event) → old.phase ≡ before → IsWithin phase old.offset →
      ((b : List ℕ) → 0 ≡ first_length b → TakesEvent (event_with_line mid.reader.line s)
      (resume before old.offset old.most b)
      (resume phase old.offset old.most b)) →
      Moves (event_with_line mid.reader.line s) (place_of old)
      (record { phase = phase; offset = old.offset; most = old.most }) → HasLine (event_with_line mid.reader.line s) →
      Steps g old (Ok s) (record mid { phase = phase })
  none-steps before phase s is within takes moves lends = grind (arith, told-steps)

  same_offset : mid.offset ≡ old.offset
  same_offset = grind arith

  pub done-steps : old.phase ≡ Between → Steps g old (Ok (event.Done mid.offset)) (record mid { phase = Ended })
  done-steps between = grind (arith, same_offset, none-steps, step-done)

  pub end-steps : (start size : ℕ) → old.phase ≡ Inside start size
      → Steps g old (Ok (event.End (mid.offset - start) size)) (record mid { phase = Between })
  end-steps start size inside = grind (arith, same_offset, none-steps, step-end)

-- the end is reported again
pub ended-steps : {S : Type 0} (g : Ghosts S) (old : Scan S) → old.phase ≡ Ended → IsScan g.rest old
    → Steps g old (Ok (event.Done old.offset)) old
ended-steps g old ended was = grind (arith, told-steps, ReadsSource-none, itself, ended-stays)

-- ---- steps that fail

module _ {S : Type 0} (g : Ghosts S) (old mid : Scan S) (fault : CutFault) (was : IsScan g.rest old) where
  -- a step that fails leaves the scan in its place
  fails-steps : (old.phase ≡ Ended → ⊥) → ReadsSource g (is_device fault) old.reader.source mid.reader.source
      → place_of mid
      ≡ place_of old →
      IfSome (still_known (coming_events g.rest old) (g.rest mid.reader.source.now)) (IsRefusalToCome fault)
      → IsFresh fault
      → Steps g old (Err fault) mid
  fails-steps not_ended reads same refuses fresh = grind arith

  pub fault-steps : old.phase ≡ Between → FindsLine g old (Err fault) mid → Steps g old (Err fault) mid
  fault-steps between f = grind (arith, step-long)

  pub fault_inside-steps : (start size : ℕ) → old.phase ≡ Inside start size → FindsLine g old (Err fault) mid
      → Steps g old (Err fault) mid
  fault_inside-steps start size inside f =
      grind (arith, step-long_inside)

-- the first line that isn't empty isn't a separator
pub refused-steps : {S : Type 0} (g : Ghosts S) (old mid : Scan S) (n : ℕ) (line : List ℕ) → IsScan g.rest old
    → old.phase ≡ Between → Found g old mid n line →
    is_separator line ≡ false → is_empty line ≡ false → Steps g old (Err NotAnMbox) mid
refused-steps g old mid n line was between h other full = grind (arith, fails-steps, step-refused)

-- ---- empty lines before a step

-- empty lines between two messages have been taken
pub record Skipped {S : Type 0} (g : Ghosts S) (old now : Scan S) : Type 0 where
  pub reads : ReadsSource g false old.reader.source now.reader.source
  pub was : old.phase ≡ Between
  pub phase : now.phase ≡ Between
  pub scan : IsScan g.rest now
  pub later : old.offset ≤ now.offset
  pub most : now.most ≡ old.most
  pub still : IfSome (still_known (coming_events g.rest old) (g.rest now.reader.source.now))
      (λ k. coming_events g.rest now ≡ Some k)

pub skipped-one : {S : Type 0} (g : Ghosts S) (old now new : Scan S) (n : ℕ) (line : List ℕ) → Skipped g old now
    → Taken g now new n Between line →
    is_separator line ≡ false → is_empty line ≡ true → Skipped g old new
skipped-one g old now new n line k t other empty = grind (arith, ReadsSource-join, at_same, both, step-empty)

moves-skipped : (result : Result Event CutFault) (line : List ℕ) (old now new : CutterPlace) → old.phase ≡ Between
    → now.phase ≡ Between → old.offset ≤ now.offset →
    IfOk result (λ s. Moves (event_with_line line s) now new)
    → IfOk result (λ s. Moves (event_with_line line s) old new)
moves-skipped result line old now new h h2 h3 h4 = grind arith

pub skipped-steps : {S : Type 0} (g : Ghosts S) (old now new : Scan S) (result : Result Event CutFault)
    → Skipped g old now → Steps g now result new → Steps g old result new
skipped-steps g old now new result k s = grind (arith, ReadsSource-join, moves-skipped)
