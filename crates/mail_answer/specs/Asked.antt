-- In which order the lengths of archives are read, and what is found.
use Rattle.std.specs.Prelude.{◌≡◌, ◌≢◌, ℕ, ◌+◌, ◌<◌, min, false, List, [], ◌∷◌, length, map, take, IfSome, IfErr}
use Rattle.std.specs.Prelude.{IsTrue, Result, Ok, Err}
use Rattle.contract_words.specs.Knowledge.{WasKnown}
use Rattle.mbox_cutter.specs.declared.device.DeviceFault.{DeviceFault}
use Rattle.mail_index.specs.Tables.{Archive, Table}
use Rattle.mail_answer.specs.Answers.{fails_by}
use Rattle.mail_answer.specs.Faults.{is_of_archives, is_stale, IfStale}
use Rattle.mail_answer.specs.Mail.{Search, AreChosen}
use Rattle.mail_answer.specs.MessageReads.{ReadsChosen}
use Rattle.mail_answer.specs.Stale.{length_in_table}
use Rattle.mail_answer.specs.TableAnswers.{mail_of_table}
use Rattle.mail_answer.specs.TableFacts.{is_number_among, record_at}
use Rattle.mail_answer.specs.declared.archives.Archives.{Ghosts}
use Rattle.mail_answer.specs.declared.fault.AnswerFault.{AnswerFault}
use Rattle.mail_answer.specs.declared.fault.AnswerFaultKind.{AnswerFaultKind}
use Rattle.mail_answer.specs.declared.fault.AnswerFaultKind.TheVariants.{Stale, Device, OutOfMemory, OutFailed}
use Rattle.mail_answer.specs.declared.format.Format.TheVariants.{Raw}

-- After calls of the archives, whether they failed or not, nothing else is known of them than before.
pub record HoldsArchives {A : Type 0} (g : Ghosts A) (old new : A) : Type 0 where
  -- each archive has the bytes that it had, if they are still known
  pub held : WasKnown (g.held old) (g.held new)
  -- what they were, if they keep account of that, they were still
  pub was : (first : A) → g.was old first → g.was new first
  -- their number is the same
  pub number : g.number new ≡ g.number old

-- There are more or fewer archives than were indexed: Stale has the smaller number, and no archive is read.
abbrev pub RefusesCount : {A T : Type 0} → Ghosts A → List Archive → A → A → Result T AnswerFault → Type 0
RefusesCount g named old new result = (result
    ≡ Err (record { kind = Stale (min (g.number old) (length named)); sent = 0 })) × (new ≡ old)

-- The lengths of the archives from this number on were read, each once and in order, and these were the results.
abbrev pub TellLengths : {A : Type 0} → Ghosts A → ℕ → List ℕ → A → A → Type 0
TellLengths g n [] old new = new ≡ old
TellLengths {A} g n (l ∷ lengths) old new = (next : A) × g.measures old n (Ok l) next
    × TellLengths g (n + 1) lengths next new

-- the lengths that were indexed
abbrev pub indexed_lengths : List Archive → List ℕ
indexed_lengths named = map (λ a. a.length) named

-- The lengths of this many archives were read, and each was the one that was indexed. If the bytes of the archives are
-- still known after that, they have these lengths.
pub record Agree {A : Type 0} (g : Ghosts A) (named : List Archive) (count : ℕ) (old new : A) : Type 0 where
  pub told : TellLengths g 0 (indexed_lengths (take count named)) old new
  pub known : IfSome (g.held new) (λ archives. map length (take count archives) ≡ indexed_lengths (take count named))

-- The lengths of the archives before this one were read, and agree. Then the length of this one was read, and no other
-- after it, with this result.
pub record AsksUpTo {A : Type 0} (g : Ghosts A) (named : List Archive) (n : ℕ) (answer : Result ℕ DeviceFault)
    (old new : A) : Type 0 where
  pub exists : n < length named
  pub before : A
  pub agree : Agree g named n old before
  pub last : g.measures before n answer new
  -- what is known after that call was known before it
  pub held : WasKnown (g.held before) (g.held new)

-- If there are as many archives as were indexed, their lengths are read, in order, up to the first that is another or
-- fails.
abbrev pub FindsLengths : {A T : Type 0} → Ghosts A → List Archive → A → A → Result T AnswerFaultKind → Type 0
FindsLengths g named old new (Ok _) = Agree g named (length named) old new
FindsLengths g named old new (Err (Stale n)) = (other : ℕ) × (other ≢ length_in_table named n)
    × AsksUpTo g named n (Ok other) old new
FindsLengths g named old new (Err Device) = (n : ℕ) × (fault : DeviceFault) × AsksUpTo g named n (Err fault) old new
FindsLengths g named old new (Err OutOfMemory) = ⊥
FindsLengths g named old new (Err OutFailed) = ⊥

-- the archive of one of the messages with these numbers
abbrev pub IsArchiveOfSome : Table → List ℕ → ℕ → Type 0
IsArchiveOfSome t numbers archive = (n : ℕ) × IsTrue (is_number_among n numbers)
    × (archive ≡ (record_at t.messages n).archive)

-- the archive of one of the messages that the search chooses
abbrev pub IsArchiveOfChosen : Table → Search → ℕ → Type 0
IsArchiveOfChosen t s archive = (numbers : List ℕ) × AreChosen (mail_of_table t) s numbers
    × IsArchiveOfSome t numbers archive

-- after lengths that agree
pub record GoesOnAfter {A : Type 0} (g : Ghosts A) (t : Table) (s : Search) (found new : A)
    (result : Result ℕ AnswerFault) : Type 0 where
  -- what is known at the end was known after the lengths
  pub held : WasKnown (g.held found) (g.held new)
  -- no length is read again
  pub once : g.lengths_asked new ≡ g.lengths_asked found
  -- a raw answer reads nothing more of the archives, and no fault is theirs
  pub raw : s.format ≡ Raw → (new ≡ found) × (fails_by is_of_archives result ≡ false)
      × (fails_by is_stale result ≡ false)
  -- an archive that a read finds to end early is that of a message of the answer
  pub stale : IfErr result (λ fault. IfStale fault.kind (IsArchiveOfChosen t s))
  -- Each message of the answer was read from its offset on, all of it for an mbox, and no read found that its archive
  -- had ended. If one does, nothing more is read, and this archive is reported.
  pub messages : ReadsChosen g t s found new result

-- Another length or a failure is the result, and no byte is sent.
abbrev pub GoesOnWith : {A : Type 0} → Ghosts A → Table → Search → Result (Unit {0}) AnswerFaultKind → A → A
    → Result ℕ AnswerFault → Type 0
GoesOnWith g t s (Err kind) found new result = (new ≡ found) × (result ≡ Err (record { kind = kind; sent = 0 }))
GoesOnWith g t s (Ok _) found new result = GoesOnAfter g t s found new result

-- What a search does if there are as many archives as were indexed: it first reads their lengths.
abbrev pub AsksFirst : {A : Type 0} → Ghosts A → Table → Search → A → A → Result ℕ AnswerFault → Type 0
AsksFirst {A} g t s old new result = (found : A) × (told : Result (Unit {0}) AnswerFaultKind)
    × FindsLengths g t.archives old found told × GoesOnWith g t s told found new result

-- What a search does if there are as many archives as were indexed, whether their bytes are known or not.
pub record SearchesArchives {A : Type 0} (g : Ghosts A) (t : Table) (s : Search) (old new : A)
    (result : Result ℕ AnswerFault) : Type 0 where
  pub lengths : AsksFirst g t s old new result
  -- a stale archive is one of them
  pub below : IfErr result (λ fault. IfStale fault.kind (λ n. n < length t.archives))

-- In which order a search reads archives, whether their bytes are known or not.
pub record ReadsInOrder {A : Type 0} (g : Ghosts A) (t : Table) (s : Search) (old new : A)
    (result : Result ℕ AnswerFault) : Type 0 where
  -- if the number of archives isn't the one that was indexed, none is read, and the smaller number is stale
  pub other_count : g.number old ≢ length t.archives → RefusesCount g t.archives old new result
  -- If it is, the length of each is read before anything else, once and in order, up to the first that has another
  -- length, which is stale, or that fails. A raw answer reads nothing more.
  pub same_count : g.number old ≡ length t.archives → SearchesArchives g t s old new result
