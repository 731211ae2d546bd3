-- What reads of a source don't change.
use Rattle.std.specs.Prelude.{◌≡◌, ℕ, Bool, List, IsSome}
use Rattle.std.specs.Borrow.{MutBor}
use Rattle.contract_words.specs.Devices.{Counted}
use Rattle.mbox_cutter.specs.declared.device.Source.{Ghosts}

-- after any number of reads, whether they failed or not
pub record Stays {S : Type 0} (g : Ghosts S) (old new : S) : Type 0 where
  -- its bytes as a whole are still the same
  pub whole : (bytes : List ℕ) → g.whole old bytes → g.whole new bytes
  -- so are those of each source below it
  pub below : (number : ℕ) (bytes : List ℕ) → g.below old number bytes → g.below new number bytes
  -- it still reads through the same references
  pub through : g.through new ≡ g.through old
  -- what is known of what it still gives was known before
  pub known : IsSome (g.rest new) → IsSome (g.rest old)
  -- what it was, it was still
  pub was : (first : S) → g.was old first → g.was new first

-- A source was read, any number of times. `failed` says whether the last read failed.
pub record ReadsSource {S : Type 0} (g : Ghosts S) (failed : Bool) (old new : MutBor S) : Type 0 where
  -- it is the same source
  pub source : new.ghost_name ≡ old.ghost_name
  -- what no read changes hasn't changed
  pub stays : Stays g old.now new.now
  -- its count of failures rises by one if it failed, and stays otherwise
  pub count : Counted failed (g.failures old.now) (g.failures new.now)
