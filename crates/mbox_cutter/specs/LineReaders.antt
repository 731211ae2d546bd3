-- The state of a reader of lines as its callers see it, and how a call takes the next line.
use Rattle.std.specs.Prelude.{◌≡◌, ℕ, Bool, List, Option, Some, IfSome, Result, MatchResult, take, drop}
use Rattle.std.specs.Io.KnownBytes.{prepend_known}
use Rattle.std.specs.Borrow.{MutBor}
use Rattle.contract_words.specs.Knowledge.{still_known}
use Rattle.mbox_cutter.specs.Lines.{first_length}
use Rattle.mbox_cutter.specs.declared.device.DeviceFault.{DeviceFault}

-- the state: the line that was taken last; the bytes that were read and not taken; whether the source has reported its
-- end; and the source
pub record BytesAhead (S : Type 0) : Type 0 where
  pub line : List ℕ
  pub unread : List ℕ
  pub ended : Bool
  pub source : MutBor S

-- all bytes to come, if they are known
abbrev pub known_bytes : {S : Type 0} → (S → Option (List ℕ)) → BytesAhead S → Option (List ℕ)
known_bytes rest r = prepend_known r.unread (rest r.source.now)

-- all bytes to come at a reader, if they are known, and if something is still known at a later one
abbrev pub known_until : {S : Type 0} → (S → Option (List ℕ)) → BytesAhead S → BytesAhead S → Option (List ℕ)
known_until rest old new = still_known (known_bytes rest old) (rest new.source.now)

-- the first line of these bytes was taken, which has n bytes, and those after it still come
pub record TakesFirstLine (bytes : List ℕ) (n : ℕ) (line after : List ℕ) : Type 0 where
  pub size : n ≡ first_length bytes
  pub front : line ≡ take n bytes
  pub rest : after ≡ drop n bytes

-- If the bytes that come after a call are known, those before it were known too. The first line of these was taken; if
-- the call failed, none was.
abbrev pub TakesKnownLine : {S : Type 0} → (S → Option (List ℕ)) → BytesAhead S → Result ℕ DeviceFault → BytesAhead S
    → Type 0
TakesKnownLine rest old result new = IfSome (known_bytes rest new) (λ after.
    (bytes : List ℕ) × (known_bytes rest old ≡ Some bytes)
    × MatchResult result (λ n. TakesFirstLine bytes n new.line after) (λ _. after ≡ bytes))
