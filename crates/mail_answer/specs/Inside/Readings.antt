-- What is read of a part of an archive, piece by piece.
use Rattle.std.specs.Prelude.{◌≡◌, ℕ, ◌+◌, ◌<◌, ◌≤◌, ◌^◌, List, [], ◌++◌, length, take, drop, Option, IfSome, Result}
use Rattle.std.specs.Prelude.{Ok, Err}
use Rattle.std.specs.Option.{option_map}
use Rattle.contract_words.specs.Archives.{IsReadFromArchive, archive_at}
use Rattle.mail_index.specs.declared.record.Record.{Record}
use Rattle.mail_answer.specs.Faults.{IfStale}
use Rattle.mail_answer.specs.MessageReads.{ReadsMessage}
use Rattle.mail_answer.specs.Pieces.{ReadsBytes, EndsWithin}
use Rattle.mail_answer.specs.declared.archives.Archives.{Ghosts}
use Rattle.mail_answer.specs.declared.fault.AnswerFaultKind.{AnswerFaultKind}
use Rattle.mail_answer.specs.declared.format.Format.{Format}

-- a reading: the archive, the offset of the byte that is read next, and the number of bytes of the part not read yet
pub record Reading : Type 0 where
  pub archive : ℕ
  pub next : ℕ
  pub left : ℕ

-- the bytes of the part that weren't read, if the archives' bytes are known
abbrev pub bytes_left : Option (List (List ℕ)) → Reading → Option (List ℕ)
bytes_left held r = option_map (λ archives. take r.left (drop r.next (archive_at archives r.archive))) held

-- the reading with this archive, this offset and this number
abbrev pub reading : ℕ → ℕ → ℕ → Reading
reading archive next left = record { archive = archive; next = next; left = left }

-- the bytes of a message, before any is read
abbrev pub span_reading : Record → Reading
span_reading m = reading m.archive m.offset m.length

-- the part is in one of this many archives
pub record IsInsideArchive (number : ℕ) (held : Option (List (List ℕ))) (r : Reading) : Type 0 where
  pub exists : r.archive < number
  pub fits : r.next + r.left < 2 ^ 64
  pub within : IfSome held (λ archives. r.next + r.left ≤ length (archive_at archives r.archive))

-- this many bytes of an archive, from an offset on, were appended; at least one
pub record AppendsRead (archive offset count : ℕ) (held : Option (List (List ℕ))) (old new : List ℕ) : Type 0 where
  pub bytes : List ℕ
  pub after : new ≡ old ++ bytes
  pub number : length bytes ≡ count
  pub some : 0 < count
  pub known : IfSome held (λ archives. bytes ≡ take count (drop offset (archive_at archives archive)))

-- What was appended is what a read of an archive gave, from an offset on; if an archive is stale, the read gave none.
abbrev pub ReadsAppended : {A : Type 0} → Ghosts A → ℕ → ℕ → A → A → List ℕ → List ℕ → Result ℕ AnswerFaultKind
    → Type 0
ReadsAppended g archive offset before after old new (Ok _) =
    g.reads before archive offset (Ok (drop (length old) new)) after
ReadsAppended g archive offset before after old new (Err kind) =
    IfStale kind (λ _. g.reads before archive offset (Ok []) after)

-- this many bytes of an archive, from an offset on, or none at its end, were read and put after the first `from` bytes
pub record ReadsTail {A : Type 0} (g : Ghosts A) (archive offset from count : ℕ) (before after : A)
    (old new : List ℕ) : Type 0 where
  pub bytes : List ℕ
  pub put : take (from + count) new ≡ take from old ++ bytes
  pub number : length bytes ≡ count
  pub read : IsReadFromArchive archive offset bytes (g.held after)
  pub told : g.reads before archive offset (Ok bytes) after

-- A part was read on, from one reading to another.
pub record ReadsUntil {A : Type 0} (g : Ghosts A) (old new : A) (from to : Reading) : Type 0 where
  pub bytes : List ℕ
  pub read : ReadsBytes g from.archive from.next bytes old new
  pub archive : to.archive ≡ from.archive
  pub next : to.next ≡ from.next + length bytes
  pub left : from.left ≡ length bytes + to.left

-- A part was read on; if an archive is stale, it has no byte there.
abbrev pub ReadsPiece : {A T : Type 0} → Ghosts A → A → A → Reading → Reading → Result T AnswerFaultKind → Type 0
ReadsPiece g old new from to (Ok _) = ReadsUntil g old new from to
ReadsPiece g old new from to (Err kind) = IfStale kind (λ _. g.reads old from.archive from.next (Ok []) new)

-- A message was read; if an archive is stale, it is that of the message, and ended within it.
abbrev pub ReadsOrEnds : {A T : Type 0} → Ghosts A → Format → Record → A → A → Result T AnswerFaultKind → Type 0
ReadsOrEnds g format m old new (Ok _) = ReadsMessage g format m old new
ReadsOrEnds g format m old new (Err kind) =
    IfStale kind (λ archive. (archive ≡ m.archive) × EndsWithin g archive m.offset m.length old new)
