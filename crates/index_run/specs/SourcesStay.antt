-- What indexing leaves of its sources as it was.
use Rattle.std.specs.Prelude.{◌≡◌, ◌+◌, ⊤, ℕ, List, length, take, drop, All, Option, None, Some}
use Rattle.std.specs.List.{AllZip}
use Rattle.std.specs.Io.KnownBytes.{IsAtEnd}
use Rattle.mbox_cutter.specs.declared.device.Source.{Ghosts}
use Rattle.mbox_cutter.specs.Sources.{Stays}
use Rattle.run_faults.specs.declared.fault.Fault.{Fault}
use Rattle.run_faults.specs.declared.fault.Fault.TheVariants.{Archive, Out}

-- Of all the sources, this many are read to their ends: all of them if no archive is at fault, and those before it if
-- one is. Other faults don't say how many.
abbrev pub AreReadToEnd : Option Fault → ℕ → ℕ → Type 0
AreReadToEnd None all read = read ≡ all
AreReadToEnd (Some Out) all read = read ≡ all
AreReadToEnd (Some (Archive number fault)) all read = read ≡ number
AreReadToEnd _ all read = ⊤

-- the sources before and after they are indexed with this fault, or with none
pub record SourcesStay {S : Type 0} (g : Ghosts S) (fault : Option Fault) (old new : List S) : Type 0 where
  -- there are as many, and each is still what it was
  pub each : AllZip (Stays g) old new
  -- the first ones are read to their ends
  pub read : ℕ
  pub ends : All (λ s. IsAtEnd (g.rest s)) (take read new)
  pub many : AreReadToEnd fault (length old) read
  -- the next one may be read in part, and those after it aren't read
  pub unread : drop (read + 1) new ≡ drop (read + 1) old
