-- What is read of an archive, piece after piece.
use Rattle.std.specs.Prelude.{◌≡◌, ℕ, ◌+◌, ◌<◌, List, [], ◌∷◌, length, take, IfSome, Result, Ok}
use Rattle.std.specs.List.{concat, AllByRecursion}
use Rattle.contract_words.specs.Archives.{archive_at}
use Rattle.contract_words.specs.Knowledge.{WasKnown}
use Rattle.mbox_cutter.specs.declared.device.DeviceFault.{DeviceFault}
use Rattle.mail_answer.specs.declared.archives.Archives.{Ghosts}

-- These pieces of an archive were read from an offset on, each from where the one before it ended.
abbrev pub TellPieces : {A : Type 0} → Ghosts A → ℕ → ℕ → List (List ℕ) → A → A → Type 0
TellPieces g n offset [] old new = new ≡ old
TellPieces {A} g n offset (piece ∷ pieces) old new = (next : A) × g.reads old n offset (Ok piece) next
    × TellPieces g n (offset + length piece) pieces next new

-- These bytes of an archive were read from its beginning on, in pieces. If its bytes are still known after that, they
-- are its first ones.
pub record ReadsFront {A : Type 0} (g : Ghosts A) (n : ℕ) (bytes : List ℕ) (old new : A) : Type 0 where
  pub pieces : List (List ℕ)
  pub joined : concat pieces ≡ bytes
  pub told : TellPieces g n 0 pieces old new
  pub known : IfSome (g.held new) (λ archives. bytes ≡ take (length bytes) (archive_at archives n))

-- Fewer than `count` bytes were read of an archive, and then a read after them had this result.
pub record StopsWithin {A : Type 0} (g : Ghosts A) (n count : ℕ) (answer : Result (List ℕ) DeviceFault) (old new : A) :
    Type 0 where
  pub bytes : List ℕ
  pub before : A
  pub front : ReadsFront g n bytes old before
  pub few : length bytes < count
  pub last : g.reads before n (length bytes) answer new
  -- what is known after that read was known before it
  pub held : WasKnown (g.held before) (g.held new)

-- These bytes of an archive were read from an offset on, in pieces, none of which is empty.
pub record ReadsBytes {A : Type 0} (g : Ghosts A) (n offset : ℕ) (bytes : List ℕ) (old new : A) : Type 0 where
  pub pieces : List (List ℕ)
  pub joined : concat pieces ≡ bytes
  pub some : AllByRecursion (λ piece. 0 < length piece) pieces
  pub told : TellPieces g n offset pieces old new

-- Fewer than `count` bytes of an archive were read in this way, and then a read of those after them gave none.
pub record EndsWithin {A : Type 0} (g : Ghosts A) (n offset count : ℕ) (old new : A) : Type 0 where
  pub bytes : List ℕ
  pub before : A
  pub front : ReadsBytes g n offset bytes old before
  pub few : length bytes < count
  pub last : g.reads before n (offset + length bytes) (Ok []) new
