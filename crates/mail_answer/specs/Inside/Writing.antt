-- An answer while it is written.
use Rattle.std.specs.Prelude.{◌≡◌, ℕ, ◌<◌, ◌-◌, ◌^◌, List, [], Option, false, length, IfSome, Result}
use Rattle.contract_words.specs.Devices.{Counted}
use Rattle.mbox_cutter.specs.declared.device.Out.{Ghosts as OutGhosts}
use Rattle.mail_index.specs.Tables.{IsWellFormed}
use Rattle.mail_answer.specs.Answers.{SendsKnown, SendsSpans, fails_by}
use Rattle.mail_answer.specs.Faults.{has_fault, is_of_archives, is_stale}
use Rattle.mail_answer.specs.Inside.Calls.{AreAsIndexed, KeepsArchives}
use Rattle.mail_answer.specs.Inside.Spans.{WritesSpan, WritesSpans}
use Rattle.mail_answer.specs.Shapes.{known_answer, known_message}
use Rattle.mail_answer.specs.Sheets.{WritesText}
use Rattle.mail_answer.specs.TableFacts.{record_at}
use Rattle.mail_answer.specs.declared.archives.Archives.{Ghosts}
use Rattle.mail_answer.specs.declared.fault.AnswerFault.{AnswerFault}
use Rattle.mail_answer.specs.declared.fault.AnswerFaultKind.{AnswerFaultKind}
use Rattle.mail_answer.specs.declared.format.Format.{Format}
use Rattle.mail_answer.specs.declared.format.Format.TheVariants.{Raw, Mbox}
use Rattle.mail_answer.specs.declared.output.answer_writer.AnswerWriter.{AnswerWriter}

-- the archives were found to have the lengths that were indexed, and each device's failures can still be counted
pub record IsReadyToWrite {A O : Type 0} (g : Ghosts A) (h : OutGhosts O) (w : AnswerWriter) (a : A) (o : O) : Type 0
  where
    pub table : IsWellFormed w.places.table
    pub indexed : AreAsIndexed g w.places.table.archives a
    pub archives : g.failures a < 2 ^ 64 - 1
    pub out : h.failures o < 2 ^ 64 - 1

-- it is the same answer: from the same index, in the same form
pub record IsSameAnswer (old new : AnswerWriter) : Type 0 where
  pub table : new.places.table ≡ old.places.table
  pub format : new.format ≡ old.format

-- nothing of it is gathered or sent yet
pub record IsBegun (w : AnswerWriter) : Type 0 where
  pub text : w.sheet.text ≡ []
  pub sent : w.sheet.sent ≡ 0

-- The message with this number was added to the answer; if the call fails, only a front of it.
pub record WritesMessage {T : Type 0} (taken taken' : Option (List ℕ)) (held : Option (List (List ℕ))) (n : ℕ)
    (old new : AnswerWriter) (result : Result T AnswerFaultKind) : Type 0 where
  -- its text is the known one, if there is a known one
  pub text : WritesText taken taken' old.sheet new.sheet (known_message old.format old.places.table held n) result
  -- whatever bytes the archives have, an mbox answer has as many bytes of the message as were indexed, closed
  pub span : old.format ≡ Mbox → WritesSpan taken taken' old.sheet new.sheet
      (record_at old.places.table.messages n).length result

-- The messages with these numbers were added to the answer; if the call fails, only a front of them.
pub record WritesMessages {T : Type 0} (taken taken' : Option (List ℕ)) (held : Option (List (List ℕ)))
    (numbers : List ℕ) (old new : AnswerWriter) (result : Result T AnswerFaultKind) : Type 0 where
  pub text : WritesText taken taken' old.sheet new.sheet (known_answer old.format old.places.table held numbers) result
  pub spans : old.format ≡ Mbox → WritesSpans taken taken' old.sheet new.sheet old.places.table numbers result

-- The messages with these numbers were sent and counted; if the call fails, only a front of them was sent.
pub record SendsMessages (taken taken' : Option (List ℕ)) (held : Option (List (List ℕ))) (numbers : List ℕ)
    (w : AnswerWriter) (result : Result ℕ AnswerFault) : Type 0 where
  pub text : SendsKnown taken taken' (known_answer w.format w.places.table held numbers) (length numbers) result
  pub spans : w.format ≡ Mbox → SendsSpans taken taken' w.places.table numbers result

-- A raw message reads nothing of the archives, and no fault is theirs.
abbrev pub LeavesArchives : {A T : Type 0} → Format → A → A → Result T AnswerFaultKind → Type 0
LeavesArchives format old new result = format ≡ Raw → (has_fault is_of_archives result ≡ false)
    × (has_fault is_stale result ≡ false) × (new ≡ old)

-- what writing an answer does to archives that have the lengths that were indexed
pub record AnswersOver {A : Type 0} (g : Ghosts A) (format : Format) (old new : A) (result : Result ℕ AnswerFault) :
    Type 0 where
  pub keeps : KeepsArchives g old new
  -- none is stale, if their bytes are still known
  pub fresh : IfSome (g.held new) (λ _. fails_by is_stale result ≡ false)
  -- their count of failures rises by one if their failure is the fault, and stays otherwise
  pub count : Counted (fails_by is_of_archives result) (g.failures old) (g.failures new)
  -- a raw answer reads nothing of them, and no fault is theirs
  pub raw : format ≡ Raw → (fails_by is_of_archives result ≡ false) × (fails_by is_stale result ≡ false) × (new ≡ old)
