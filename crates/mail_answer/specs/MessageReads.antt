-- What is read of the messages of an answer, whether the archives' bytes are known or not.
use Rattle.std.specs.Prelude.{◌≡◌, ℕ, ◌≤◌, List, [], ◌∷◌, ◌++◌, length, Result, Ok, Err}
use Rattle.mail_index.specs.Tables.{Table}
use Rattle.mail_index.specs.declared.record.Record.{Record}
use Rattle.mail_answer.specs.Answers.{kind_of}
use Rattle.mail_answer.specs.Faults.{IfStale}
use Rattle.mail_answer.specs.Mail.{Search, AreChosen}
use Rattle.mail_answer.specs.Pieces.{ReadsBytes, EndsWithin}
use Rattle.mail_answer.specs.TableAnswers.{mail_of_table}
use Rattle.mail_answer.specs.TableFacts.{record_at}
use Rattle.mail_answer.specs.declared.archives.Archives.{Ghosts}
use Rattle.mail_answer.specs.declared.fault.AnswerFault.{AnswerFault}
use Rattle.mail_answer.specs.declared.fault.AnswerFaultKind.{AnswerFaultKind}
use Rattle.mail_answer.specs.declared.format.Format.{Format}
use Rattle.mail_answer.specs.declared.format.Format.TheVariants.{Raw, Excerpt, Mbox}

-- These bytes are read of a message: for a raw line none, for an excerpt the first ones, since its header is there, and
-- for an mbox all of them.
abbrev pub IsReadFor : Format → Record → List ℕ → Type 0
IsReadFor Raw m bytes = bytes ≡ []
IsReadFor Excerpt m bytes = length bytes ≤ m.length
IsReadFor Mbox m bytes = length bytes ≡ m.length

-- A message was read from its offset on, and no read found that its archive had ended.
abbrev pub ReadsMessage : {A : Type 0} → Ghosts A → Format → Record → A → A → Type 0
ReadsMessage g format m old new = (bytes : List ℕ) × IsReadFor format m bytes
    × ReadsBytes g m.archive m.offset bytes old new

-- The messages with these numbers were read in this way, one after another, and nothing else.
abbrev pub ReadsEach : {A : Type 0} → Ghosts A → Format → List Record → List ℕ → A → A → Type 0
ReadsEach g format messages [] old new = new ≡ old
ReadsEach {A} g format messages (n ∷ numbers) old new = (next : A)
    × ReadsMessage g format (record_at messages n) old next × ReadsEach g format messages numbers next new

-- The messages before one of these were read. Then a part of that one was read, and the last read found that this
-- archive, which is the one of that message, had ended.
pub record EndsAmong {A : Type 0} (g : Ghosts A) (format : Format) (messages : List Record) (numbers : List ℕ)
    (archive : ℕ) (old new : A) : Type 0 where
  pub earlier : List ℕ
  pub here : ℕ
  pub later : List ℕ
  pub place : numbers ≡ earlier ++ here ∷ later
  pub before : A
  pub read : ReadsEach g format messages earlier old before
  pub is : archive ≡ (record_at messages here).archive
  pub ends : EndsWithin g archive (record_at messages here).offset (record_at messages here).length before new

-- The messages with these numbers were read; if an archive is stale, it ended early.
abbrev pub ReadsMessages : {A T : Type 0} → Ghosts A → Format → List Record → List ℕ → A → A
    → Result T AnswerFaultKind → Type 0
ReadsMessages g format messages numbers old new (Ok _) = ReadsEach g format messages numbers old new
ReadsMessages g format messages numbers old new (Err kind) =
    IfStale kind (λ archive. EndsAmong g format messages numbers archive old new)

-- the same of the messages that a search chooses
abbrev pub ReadsChosen : {A : Type 0} → Ghosts A → Table → Search → A → A → Result ℕ AnswerFault → Type 0
ReadsChosen g t s old new result = (numbers : List ℕ) × AreChosen (mail_of_table t) s numbers
    × ReadsMessages g s.format t.messages numbers old new (kind_of result)
