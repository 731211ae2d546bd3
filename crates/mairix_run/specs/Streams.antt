-- What a stream has taken and handed on.
use Rattle.std.specs.Prelude.{◌≡◌, ◌⊎◌, ℕ, ◌+◌, List, take, drop, Option, Some, Result, Ok, Err}
use Rattle.std.specs.Io.KnownBytes.{Appends}
use Rattle.std.proofs.Common.{sym}
use Rattle.std.proofs.lemmas.List.{take-append-drop}
use Rattle.contract_words.specs.Devices.{Sends}
use Rattle.mbox_cutter.specs.declared.device.DeviceFault.{DeviceFault}
use Rattle.mbox_cutter.specs.declared.device.Out.{Ghosts}

-- a front of the bytes that it took was handed on, perhaps none or all of them, if those handed on are known
abbrev pub IsFrontOf : Option (List ℕ) → Option (List ℕ) → Type 0
IsFrontOf handed taken = (kept : List ℕ) × Appends handed taken kept

-- it took all of a text, and nothing failed
abbrev pub TakesWholeText : {O : Type 0} → Ghosts O → O → O → List ℕ → Type 0
TakesWholeText g old new text = Appends (g.taken old) (g.taken new) text × (g.failures new ≡ g.failures old)

-- it took a front of a text, perhaps none or all of it, and then a call failed
abbrev pub BreaksOff : {O : Type 0} → Ghosts O → O → O → List ℕ → Type 0
BreaksOff g old new text = Sends (g.taken old) (g.taken new) text × (g.failures new ≡ g.failures old + 1)

-- it took all of a text, or a front of it before a call failed
abbrev pub TakesOrBreaksOff : {O : Type 0} → Ghosts O → O → O → List ℕ → Type 0
TakesOrBreaksOff g old new text = TakesWholeText g old new text ⊎ BreaksOff g old new text

-- it took all of a text, and has handed on all that it took
abbrev pub Prints : {O : Type 0} → Ghosts O → (O → Option (List ℕ)) → O → O → List ℕ → Type 0
Prints g handed_on old new text = TakesWholeText g old new text × (handed_on new ≡ g.taken new)

-- ---- by the result of a call

-- it took all of a text; with an error only a front of it
abbrev pub EndsTaking : {O : Type 0} → Ghosts O → O → O → List ℕ → Result (Unit {0}) DeviceFault → Type 0
EndsTaking g old new text (Ok done) = TakesWholeText g old new text
EndsTaking g old new text (Err fault) = BreaksOff g old new text

-- it took all of a text and handed it on; with an error it took only a front of it, or couldn't hand on all
abbrev pub EndsFlushed : {O : Type 0} → Ghosts O → (O → Option (List ℕ)) → O → O → List ℕ
    → Result (Unit {0}) DeviceFault → Type 0
EndsFlushed g handed_on old new text (Ok done) = Prints g handed_on old new text
EndsFlushed g handed_on old new text (Err fault) = BreaksOff g old new text

-- ---- in memory

-- A stream in memory: the bytes that it has taken, how many of them it has handed on, and the number of calls that have
-- failed.
pub record Gathering : Type 0 where
  pub taken : List ℕ
  pub handed_on : ℕ
  pub failures : ℕ

-- what it has handed on is a front of what it has taken
pub handed_on_is_front : (s : Gathering) → IsFrontOf (Some (take s.handed_on s.taken)) (Some s.taken)
handed_on_is_front s = (drop s.handed_on s.taken, sym (take-append-drop s.handed_on s.taken))
