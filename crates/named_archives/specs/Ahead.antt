-- Pieces of a file that were read before they are needed, and what a call that reads the file leaves of it.
use Rattle.std.specs.Prelude.{◌≡◌, ◌≤◌, ℕ, List, length, take, drop, Option, Some, OnOk, Result}
use Rattle.std.specs.Option.{ForSome}
use Rattle.contract_words.specs.Devices.{Counts}
use Rattle.contract_words.specs.Knowledge.{WasKnown}
use Rattle.mbox_cutter.specs.declared.device.DeviceFault.{DeviceFault}
use Rattle.named_files.specs.Entries.{IsReadFromFile}

-- these bytes are in a file from the offset on, if its bytes are known
abbrev pub IsPiece : ℕ → List ℕ → Option (List ℕ) → Type 0
IsPiece offset bytes known = ForSome known (λ all. bytes ≡ take (length bytes) (drop offset all))

-- this many bytes at the front of a slice are those of a file from the offset on, if its bytes are known
abbrev pub IsReadInto : ℕ → List ℕ → Option (List ℕ) → ℕ → Type 0
IsReadInto offset into known n = (n ≤ length into) × IsReadFromFile offset (take n into) known

-- What a call leaves of a file that has to be in one state.
pub record CallsInState {F S T : Type 0} (rest bytes : F → Option (List ℕ)) (found : F → Option S) (failures : F → ℕ)
    (state : S) (result : Result T DeviceFault) (old new : F) : Type 0 where
  -- what is known of it was known before, and where it is read next stays
  pub known : WasKnown (bytes old) (bytes new)
  pub stays : rest new ≡ rest old
  -- what is given was read while it was in its state
  pub in_state : OnOk result (found new ≡ Some state)
  pub count : Counts result (failures old) (failures new)
