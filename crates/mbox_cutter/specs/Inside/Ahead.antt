-- How a reader of lines reads on, and takes bytes.
use Rattle.std.specs.Prelude.{◌≡◌, ℕ, ◌++◌, ◌+◌, ◌<◌, ◌≤◌, Bool, List, Option, Some, IfSome, Result, MatchResult}
use Rattle.std.specs.Prelude.{length, take, drop}
use Rattle.std.specs.Io.KnownBytes.{Consumes, Keeps, IsAtEnd}
use Rattle.mbox_cutter.specs.declared.device.DeviceFault.{DeviceFault}
use Rattle.mbox_cutter.specs.declared.device.Source.{Ghosts}
use Rattle.mbox_cutter.specs.Lines.{first_length, IsLine}
use Rattle.mbox_cutter.specs.LineReaders.{BytesAhead, known_bytes, known_until}
use Rattle.mbox_cutter.specs.Sources.{ReadsSource}

-- the new bytes are the old ones, with perhaps more after them
abbrev pub Extends : List ℕ → List ℕ → Type 0
Extends old new = (more : List ℕ) × (new ≡ old ++ more)

-- a read puts its bytes after the first `held` bytes of a buffer, and keeps these
abbrev pub ReadsAfter : ℕ → Option (List ℕ) → Option (List ℕ) → Result ℕ DeviceFault → List ℕ → List ℕ → Type 0
ReadsAfter held old new result before after =
    MatchResult result
    (λ n. (got : List ℕ) × (held + n ≤ length before) × (length got ≡ n)
    × (take (held + n) after ≡ take held before ++ got) × Consumes old new got × (n ≡ 0 → IsAtEnd new))
    (λ _. Keeps old new × (take held after ≡ take held before))

-- how a call that takes no byte changes a reader: it may read more
pub record ReadsOn {S : Type 0} (g : Ghosts S) (failed : Bool) (old new : BytesAhead S) : Type 0 where
  pub source : ReadsSource g failed old.source new.source
  -- the bytes to come are the same, if they are known
  pub bytes : IfSome (known_until g.rest old new) (λ bytes. known_bytes g.rest new ≡ Some bytes)
  -- what was read before still comes first
  pub keeps : Extends old.unread new.unread

-- the line after the next `skip` bytes has n bytes, and 0 at the end; `old` is the reader before more was read
pub record IsLineLength {S : Type 0} (g : Ghosts S) (skip : ℕ) (old new : BytesAhead S) (n : ℕ) : Type 0 where
  -- its bytes have been read
  pub within : skip + n ≤ length new.unread
  -- they are a line
  pub line : 0 < n → IsLine (take n (drop skip new.unread))
  -- it is the first line of the bytes to come, if they are known
  pub first : IfSome (known_until g.rest old new) (λ bytes. n ≡ first_length (drop skip bytes))
  -- it has no bytes only if the source is at its end
  pub end : n ≡ 0 → IsAtEnd (g.rest new.source.now)

-- the next n bytes were taken
pub record TakesLine {S : Type 0} (n : ℕ) (old new : BytesAhead S) : Type 0 where
  -- nothing was read
  pub source : new.source ≡ old.source
  -- they are the line that was taken last
  pub line : new.line ≡ take n old.unread
  -- they don't come any more
  pub unread : new.unread ≡ drop n old.unread
