-- Which archive has other bytes than those that were indexed.
use Rattle.std.specs.Prelude.{◌≡◌, ◌⊎◌, ℕ, ◌+◌, ◌<◌, List, [], ◌∷◌, length, map, take, drop, Bool, false, Option, None}
use Rattle.std.specs.Prelude.{Some, IfSome, IfErr, Result, Ok, Err, if◌then◌else◌}
use Rattle.std.specs.Option.{option_map_or, option_or}
use Rattle.std.specs.Str.{bytes_eq}
use Rattle.sha2.specs.Sha256.{sha256}
use Rattle.mail_index.specs.Tables.{Archive}
use Rattle.contract_words.specs.Knowledge.{WasKnown}
use Rattle.mbox_cutter.specs.declared.device.DeviceFault.{DeviceFault}
use Rattle.mail_answer.specs.Answers.{kind_of}
use Rattle.mail_answer.specs.Asked.{FindsLengths}
use Rattle.mail_answer.specs.Faults.{IfStale}
use Rattle.mail_answer.specs.Pieces.{ReadsFront, StopsWithin}
use Rattle.mail_answer.specs.Stale.{stale_archive}
use Rattle.mail_answer.specs.declared.archives.Archives.{Ghosts}
use Rattle.mail_answer.specs.declared.fault.AnswerFault.{AnswerFault}
use Rattle.mail_answer.specs.declared.fault.AnswerFaultKind.{AnswerFaultKind}
use Rattle.mail_answer.specs.declared.fault.AnswerFaultKind.TheVariants.{Stale, Device, OutOfMemory, OutFailed}

-- whether the digest that was indexed is that of these bytes
abbrev pub has_digest : Archive → List ℕ → Bool
has_digest a bytes = option_map_or (λ digest. bytes_eq digest (sha256 bytes)) a.digest false

-- the first archive with another digest than was indexed, counted from n on
abbrev pub first_altered : ℕ → List Archive → List (List ℕ) → Option ℕ
first_altered n [] archives = None
first_altered n (a ∷ named) [] = None
first_altered n (a ∷ named) (bytes ∷ archives) = if has_digest a bytes then first_altered (n + 1) named archives
    else Some n

-- the archive that isn't the one that was indexed: first by the number of archives and their lengths, then by the
-- digests
abbrev pub unverified_archive : List Archive → List (List ℕ) → Option ℕ
unverified_archive named archives = option_or (stale_archive named archives) (first_altered 0 named archives)

-- the archives are exactly as many as were indexed, and each has the length and the digest that were indexed
pub record AreVerified (named : List Archive) (archives : List (List ℕ)) : Type 0 where
  pub lengths : map (λ a. a.length) named ≡ map length archives
  pub digests : map (λ a. a.digest) named ≡ map (λ bytes. Some (sha256 bytes)) archives

-- The fault is right. A failed device says nothing of the archives. Memory runs out only if the number and the lengths
-- of the archives are those that were indexed.
abbrev pub IsRightFault : List Archive → List (List ℕ) → AnswerFaultKind → Type 0
IsRightFault named archives (Stale n) = unverified_archive named archives ≡ Some n
IsRightFault named archives Device = Unit {0}
IsRightFault named archives OutOfMemory = stale_archive named archives ≡ None
IsRightFault named archives OutFailed = ⊥

-- What the call found is right: all archives are those that were indexed, or the fault is right.
abbrev pub ReportsVerified : {T : Type 0} → List Archive → List (List ℕ) → Result T AnswerFaultKind → Type 0
ReportsVerified named archives (Ok _) = unverified_archive named archives ≡ None
ReportsVerified named archives (Err kind) = IsRightFault named archives kind

-- ---- in which order the archives are read, and what is found, even if their bytes aren't known

-- These bytes were read of the archives from this number on, one archive after another.
abbrev pub ReadEach : {A : Type 0} → Ghosts A → ℕ → List (List ℕ) → A → A → Type 0
ReadEach g n [] old new = new ≡ old
ReadEach {A} g n (bytes ∷ archives) old new = (next : A) × ReadsFront g n bytes old next
    × ReadEach g (n + 1) archives next new

-- This many archives were read, each once, and the bytes that were read have the lengths and digests that were indexed.
-- If the bytes of the archives are still known after that, they are the ones that were read.
pub record AreReadOnce {A : Type 0} (g : Ghosts A) (named : List Archive) (count : ℕ) (old new : A) : Type 0 where
  pub archives : List (List ℕ)
  pub each : ReadEach g 0 archives old new
  pub verified : AreVerified (take count named) archives
  pub known : IfSome (g.held new) (λ held. take count held ≡ archives)

-- The archives before this one were read in this way. Then this one was read, and no other after it, with this result.
pub record ReadsUpTo {A : Type 0} (g : Ghosts A) (named : List Archive) (n : ℕ) (Finds : Archive → A → A → Type 0)
    (old new : A) : Type 0 where
  pub here : Archive
  pub after : List Archive
  pub place : drop n named ≡ here ∷ after
  pub before : A
  pub read : AreReadOnce g named n old before
  pub last : Finds here before new
  -- what is known after this one was known before it
  pub held : WasKnown (g.held before) (g.held new)

-- The archive ends before its length, or that many of its bytes have another digest.
abbrev pub ReadsOther : {A : Type 0} → Ghosts A → ℕ → Archive → A → A → Type 0
ReadsOther g n a old new = StopsWithin g n a.length (Ok []) old new
    ⊎ ((bytes : List ℕ) × ReadsFront g n bytes old new × (length bytes ≡ a.length) × (has_digest a bytes ≡ false))

-- A read of the archive fails before all of its indexed length was read.
abbrev pub FailsWithin : {A : Type 0} → Ghosts A → ℕ → Archive → A → A → Type 0
FailsWithin g n a old new = (fault : DeviceFault) × StopsWithin g n a.length (Err fault) old new

-- The archives are read through, in order, up to the first that isn't the one that was indexed, or whose reading fails.
-- If memory runs out, none is read.
abbrev pub FindsDigests : {A T : Type 0} → Ghosts A → List Archive → A → A → Result T AnswerFaultKind → Type 0
FindsDigests g named old new (Ok _) = AreReadOnce g named (length named) old new
FindsDigests g named old new (Err (Stale n)) = ReadsUpTo g named n (ReadsOther g n) old new
FindsDigests g named old new (Err Device) = (n : ℕ) × ReadsUpTo g named n (FailsWithin g n) old new
FindsDigests g named old new (Err OutOfMemory) = new ≡ old
FindsDigests g named old new (Err OutFailed) = ⊥

-- If the lengths gave a fault, that is the result. If they agree, the digests decide, and what is known at the end was
-- known after the lengths.
abbrev pub GoesOnToDigests : {A T : Type 0} → Ghosts A → List Archive → Result (Unit {0}) AnswerFaultKind → A → A
    → Result T AnswerFaultKind → Type 0
GoesOnToDigests g named (Err kind) found new result = (new ≡ found) × (result ≡ Err kind)
GoesOnToDigests g named (Ok _) found new result =
    WasKnown (g.held found) (g.held new) × FindsDigests g named found new result

-- What a call does if there are as many archives as were indexed: it reads all lengths, and then the archives.
abbrev pub LooksThrough : {A T : Type 0} → Ghosts A → List Archive → A → A → Result T AnswerFaultKind → Type 0
LooksThrough {A} g named old new result = (found : A) × (told : Result (Unit {0}) AnswerFaultKind)
    × FindsLengths g named old found told × GoesOnToDigests g named told found new result

-- What `verify` does if there are as many archives as were indexed, whether their bytes are known or not.
pub record VerifiesArchives {A T : Type 0} (g : Ghosts A) (named : List Archive) (old new : A)
    (result : Result T AnswerFault) : Type 0 where
  pub through : LooksThrough g named old new (kind_of result)
  -- a stale archive is one of them
  pub below : IfErr result (λ fault. IfStale fault.kind (λ n. n < length named))
