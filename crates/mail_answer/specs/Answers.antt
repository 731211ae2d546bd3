-- What a call that writes an answer does to its output, and what it says of the archives.
use Rattle.std.specs.Prelude.{◌≡◌, ℕ, ◌-◌, ◌^◌, min, List, ◌++◌, length, Bool, false, Option, None, Some, Result, Ok}
use Rattle.std.specs.Prelude.{Err}
use Rattle.std.specs.Io.KnownBytes.{Appends, Keeps}
use Rattle.std.specs.Bool.{MatchBool}
use Rattle.std.specs.List.{flat_map}
use Rattle.contract_words.specs.Devices.{Counted}
use Rattle.mbox_cutter.specs.declared.device.Out.{Ghosts as OutGhosts}
use Rattle.mail_index.specs.Tables.{Table}
use Rattle.mail_answer.specs.Shapes.{closed_text, AreSpansOf}
use Rattle.mail_answer.specs.Faults.{is_stale, is_of_archives}
use Rattle.mail_answer.specs.Sheets.{IsIfKnown}
use Rattle.mail_answer.specs.declared.archives.Archives.{Ghosts}
use Rattle.mail_answer.specs.declared.fault.AnswerFault.{AnswerFault}
use Rattle.mail_answer.specs.declared.fault.AnswerFaultKind.{AnswerFaultKind}
use Rattle.mail_answer.specs.declared.fault.AnswerFaultKind.TheVariants.{Stale}

-- a front of the text was sent, and `count` is the number of its bytes, but never more than the greatest number of u64
pub record SendsFront (taken taken' : Option (List ℕ)) (text : List ℕ) (count : ℕ) : Type 0 where
  pub went : List ℕ
  pub unsent : List ℕ
  pub front : text ≡ went ++ unsent
  pub appends : Appends taken taken' went
  pub counted : count ≡ min (length went) (2 ^ 64 - 1)

-- the whole text was sent and the messages are counted; with a fault, a front of the text was sent
abbrev pub SendsAnswer : Option (List ℕ) → Option (List ℕ) → List ℕ → ℕ → Result ℕ AnswerFault → Type 0
SendsAnswer taken taken' text messages (Ok count) = (count ≡ messages) × Appends taken taken' text
SendsAnswer taken taken' text messages (Err fault) = SendsFront taken taken' text fault.sent

-- The same of a text that may be unknown: it is the known one, if there is a known one.
abbrev pub SendsKnown : Option (List ℕ) → Option (List ℕ) → Option (List ℕ) → ℕ → Result ℕ AnswerFault → Type 0
SendsKnown taken taken' known messages result = (text : List ℕ) × IsIfKnown known text
    × SendsAnswer taken taken' text messages result

-- The same of an mbox answer, whatever bytes the archives have: for each of the messages with these numbers it has as
-- many bytes as were indexed, closed.
abbrev pub SendsSpans : Option (List ℕ) → Option (List ℕ) → Table → List ℕ → Result ℕ AnswerFault → Type 0
SendsSpans taken taken' t numbers result = (spans : List (List ℕ)) × AreSpansOf t numbers spans
    × SendsAnswer taken taken' (flat_map closed_text spans) (length numbers) result

-- whether the call failed with a fault of these kinds
abbrev pub fails_by : {T : Type 0} → (AnswerFaultKind → Bool) → Result T AnswerFault → Bool
fails_by kinds (Ok _) = false
fails_by kinds (Err fault) = kinds fault.kind

-- the result without the number of bytes sent
abbrev pub kind_of : {T : Type 0} → Result T AnswerFault → Result T AnswerFaultKind
kind_of (Ok x) = Ok x
kind_of (Err fault) = Err fault.kind

-- What the call says of the archives is right. If all are as they were indexed, none is stale. Otherwise the first that
-- isn't is stale, unless a device fails before it is found; then nothing was sent.
abbrev pub AnswersStale : Option (List ℕ) → Option (List ℕ) → Option ℕ → Result ℕ AnswerFault → Type 0
AnswersStale taken taken' stale (Ok _) = stale ≡ None
AnswersStale taken taken' None (Err fault) = is_stale fault.kind ≡ false
AnswersStale taken taken' (Some n) (Err fault) =
    MatchBool (is_of_archives fault.kind) (fault.sent ≡ 0) (fault ≡ record { kind = Stale n; sent = 0 })
    × Keeps taken taken'

-- Each device's count of failures rises by one if the device failed, and stays if it didn't.
pub record CountsFailures {A O : Type 0} (g : Ghosts A) (h : OutGhosts O) (archives_failed out_failed : Bool)
    (old new : A) (before after : O) : Type 0 where
  pub archives : Counted archives_failed (g.failures old) (g.failures new)
  pub out : Counted out_failed (h.failures before) (h.failures after)
