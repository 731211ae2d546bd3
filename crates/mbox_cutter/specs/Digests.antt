-- The state of a source that computes the digest of what it gives.
use Rattle.std.specs.Prelude.{◌≡◌, ℕ, zero, suc, List, ◌++◌, take, Option, IfSome, Result, MatchResult}
use Rattle.std.specs.Borrow.{MutBor}
use Rattle.sha2.specs.Hashers.{Holds256}
use Rattle.mbox_cutter.specs.declared.device.DeviceFault.{DeviceFault}
use Rattle.mbox_cutter.specs.declared.digested.Digested.{Digested}

module _ {S : Type 0} where
  -- the other source, which it reads
  abbrev pub inner : Digested S → MutBor S
  inner d = d.source

  -- it has given these bytes so far
  abbrev pub HasGiven : Digested S → List ℕ → Type 0
  HasGiven d given = Holds256 d.hasher given

  -- these are all its bytes: those given so far, and then those that the other source still gives, if these are known
  abbrev pub AreWhole : (S → Option (List ℕ)) → Digested S → List ℕ → Type 0
  AreWhole rest d bytes = (given : List ℕ) × HasGiven d given
      × IfSome (rest (inner d).now) (λ left. bytes ≡ given ++ left)

  -- these are all bytes of the source below it with this number, which is the other source or one below that
  abbrev pub AreWholeBelow : (S → List ℕ → Type 0) → (S → ℕ → List ℕ → Type 0) → Digested S → ℕ → List ℕ → Type 0
  AreWholeBelow whole below d zero bytes = whole (inner d).now bytes
  AreWholeBelow whole below d (suc number) bytes = below (inner d).now number bytes

  -- a read gave the first n bytes of the slice, and none if it failed
  abbrev pub GivesBytes : Digested S → Result ℕ DeviceFault → List ℕ → Digested S → Type 0
  GivesBytes old result into new = (given : List ℕ) → HasGiven old given
      → MatchResult result (λ n. HasGiven new (given ++ take n into)) (λ _. HasGiven new given)
