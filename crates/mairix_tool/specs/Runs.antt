-- What whole runs reply: by the archives' own messages, by a table, and by a stored index.
use Rattle.std.specs.Prelude.{◌≡◌, ◌⊎◌, ⊤, ℕ, ◌+◌, ◌==◌, ◌&&◌, ◌||◌, Bool, true, false, min, List, [], ◌∷◌, length}
use Rattle.std.specs.Prelude.{Option, None, Some, Result, Ok, Err, if◌then◌else◌}
use Rattle.std.specs.Bool.{MatchBool, OnTrue}
use Rattle.std.specs.Io.KnownBytes.{Appends}
use Rattle.std.specs.Str.{bytes_eq}
use Rattle.contract_words.specs.Devices.{Sends}
use Rattle.mail_answer.specs.declared.fault.AnswerFaultKind.{AnswerFaultKind}
use Rattle.mail_answer.specs.declared.fault.AnswerFaultKind.TheVariants as kind
use Rattle.mail_answer.specs.Mail.{Search, AreChosen}
use Rattle.mail_answer.specs.Shapes.{answer_text, known_answer}
use Rattle.mail_answer.specs.Sheets.{IsIfKnown}
use Rattle.mail_answer.specs.Stale.{stale_archive}
use Rattle.mail_answer.specs.TableAnswers.{mail_of_table}
use Rattle.mail_answer.specs.Verified.{AreVerified, unverified_archive}
use Rattle.mail_index.specs.declared.view.fault.IndexFault.{IndexFault}
use Rattle.mail_index.specs.Faults.{IsFileOfTable, IsFirstFaultOfFile}
use Rattle.mail_index.specs.Tables.{Archive, Table}
use Rattle.mail_query.specs.Query.{uses_names}
use Rattle.run_faults.specs.declared.fault.Fault.{Fault}
use Rattle.run_faults.specs.declared.fault.Fault.TheVariants as of
use Rattle.run_faults.specs.declared.fault.Fault.TheVariants.{Index, OldIndex, Stale}
use Rattle.mairix_tool.specs.declared.reply.Reply.{Reply}
use Rattle.index_job.specs.ArchiveRefusals.{AreSound}
use Rattle.index_job.specs.ArchiveTables.{Mbox, table}
use Rattle.index_run.specs.ArchivesIndexed.{mboxes, RefusesArchives, IsArchivesFault}
use Rattle.mairix_tool.specs.Asked.{Wanted}
use Rattle.run_faults.specs.Faults.{is_early, is_failure, is_memory, is_of_index, status_of_fault}
use Rattle.mairix_tool.specs.MailOfArchives.{mail_in, shape}
use Rattle.mairix_tool.specs.Replies.{Answer, answer_of_fault, status_of_count}

-- the answer with this text and this many messages
abbrev pub answer_of_text : List ℕ → ℕ → Answer
answer_of_text text messages = record {
  text = text;
  reply =
      record { status = status_of_count messages; messages = messages; fault = None };
}

-- ---- by the messages themselves

-- The messages that satisfy the query, with threads all of their threads, by archive, then offset, each once.
abbrev pub IsAnswer : List Mbox → Search → Answer → Type 0
IsAnswer archives s answer = (numbers : List ℕ) × AreChosen (mail_in archives) s numbers
    × (answer ≡ answer_of_text (shape archives s.format numbers) (length numbers))

-- the answer is the refusal of the first faulty archive
abbrev pub IsRefusedBy : List Mbox → Answer → Type 0
IsRefusedBy archives answer = (fault : Fault) × RefusesArchives archives fault × (answer ≡ answer_of_fault fault)

-- The reply and its text: a refusal of words, rcfile or query; otherwise of an archive; otherwise the answer. If one
-- archive is too long and has too many messages or keys, either refusal is right.
abbrev pub IsReply : Result Wanted Fault → List (List ℕ) → Answer → Type 0
IsReply (Err fault) bytes answer = answer ≡ answer_of_fault fault
IsReply (Ok w) bytes answer =
    (AreSound (mboxes w.paths bytes) × IsAnswer (mboxes w.paths bytes) w.search answer)
    ⊎ IsRefusedBy (mboxes w.paths bytes) answer

-- ---- by a table

-- if this archive isn't the one that was indexed, the answer is that fault; otherwise it is one that was found
abbrev pub IsStaleOr : Option ℕ → (Answer → Type 0) → Answer → Type 0
IsStaleOr (Some n) IsFound answer = answer ≡ answer_of_fault (Stale n)
IsStaleOr None IsFound answer = IsFound answer

-- the answer has the messages that the search chooses from the table, and their text over archives with these bytes
abbrev pub IsAnswerFrom : Table → Search → List (List ℕ) → Answer → Type 0
IsAnswerFrom t s held answer = (numbers : List ℕ) × AreChosen (mail_of_table t) s numbers
    × (answer ≡ answer_of_text (answer_text s.format t held numbers) (length numbers))

-- the answer of the table over archives with these bytes
abbrev pub IsAnswerOrStale : Table → Search → List (List ℕ) → Answer → Type 0
IsAnswerOrStale t s held answer = IsStaleOr (stale_archive t.archives held) (IsAnswerFrom t s held) answer

-- the answer if `bytes` are indexed and `held` are searched
abbrev pub IsOnceReply : Result Wanted Fault → List (List ℕ) → List (List ℕ) → Answer → Type 0
IsOnceReply (Err fault) bytes held answer = answer ≡ answer_of_fault fault
IsOnceReply (Ok w) bytes held answer =
    (AreSound (mboxes w.paths bytes) × IsAnswerOrStale (table (mboxes w.paths bytes)) w.search held answer)
    ⊎ IsRefusedBy (mboxes w.paths bytes) answer

-- ---- by a stored index

-- the first archive with another path than was indexed, counted from n on
abbrev pub first_renamed : ℕ → List Archive → List (List ℕ) → Option ℕ
first_renamed n [] paths = None
first_renamed n (a ∷ named) [] = None
first_renamed n (a ∷ named) (path ∷ paths) = if bytes_eq a.path path then first_renamed (n + 1) named paths else Some n

-- the first archive with another path than was indexed; if the numbers of paths differ, the smaller number
abbrev pub renamed_archive : List Archive → List (List ℕ) → Option ℕ
renamed_archive named paths = if length paths == length named then first_renamed 0 named paths
    else Some (min (length paths) (length named))

-- whether the index is of version 1, which has neither digests of archives nor names of attachments, and one of these
-- is wanted
abbrev pub is_too_old : Table → Wanted → Bool
is_too_old t w = (t.version == 1) && (w.verify || uses_names w.search.query)

-- if the index is too old, the answer is that fault; otherwise it is one that was found
abbrev pub IsOldOr : Bool → (Answer → Type 0) → Answer → Type 0
IsOldOr true IsFound answer = answer ≡ answer_of_fault OldIndex
IsOldOr false IsFound answer = IsFound answer

-- The first archive that doesn't have the bytes that were indexed, if the archives are to be verified; none if they
-- aren't.
abbrev pub unproved_archive : Bool → List Archive → List (List ℕ) → Option ℕ
unproved_archive false named held = None
unproved_archive true named held = unverified_archive named held

-- the answer of the table over archives with its paths, which are verified first if that is wanted
abbrev pub IsVerifiedAnswer : Wanted → Table → List (List ℕ) → Answer → Type 0
IsVerifiedAnswer w t held answer = IsStaleOr (unproved_archive w.verify t.archives held)
    (IsAnswerOrStale t w.search held) answer

-- the answer of a table, which depends first on its version, then on its paths, then on the archives' bytes
abbrev pub IsStoredAnswer : Wanted → Table → List (List ℕ) → Answer → Type 0
IsStoredAnswer w t held answer = IsOldOr (is_too_old t w)
    (IsStaleOr (renamed_archive t.archives w.paths) (IsVerifiedAnswer w t held)) answer

-- a refusal of words, rcfile or query; otherwise the first fault of the index; otherwise the answer of its table
abbrev pub IsStoredReply : Result Wanted Fault → List ℕ → List (List ℕ) → Answer → Type 0
IsStoredReply (Err fault) index held answer = answer ≡ answer_of_fault fault
IsStoredReply (Ok w) index held answer =
    ((fault : IndexFault) × IsFirstFaultOfFile index fault × (answer ≡ answer_of_fault (Index fault)))
    ⊎ ((t : Table) × IsFileOfTable index t × IsStoredAnswer w t held answer)

-- the fault of a run for a fault of an answer
abbrev pub fault_of_answer_kind : AnswerFaultKind → Fault
fault_of_answer_kind (kind.Stale n) = Stale n
fault_of_answer_kind kind.Device = of.Device
fault_of_answer_kind kind.OutOfMemory = of.Memory
fault_of_answer_kind kind.OutFailed = of.Out

-- ---- what a run returned, compared with that

-- What was found is right: the archives have the bytes that they must have, or this one doesn't. If a device or memory
-- failed, nothing was found.
abbrev pub ReportsProved : {T : Type 0} → Option ℕ → Result T Fault → Type 0
ReportsProved unproved (Ok _) = unproved ≡ None
ReportsProved unproved (Err (Stale n)) = unproved ≡ Some n
ReportsProved unproved (Err of.Device) = ⊤
ReportsProved unproved (Err of.Memory) = ⊤
ReportsProved unproved (Err _) = ⊥

-- Without a fault, the bytes that were read of the archives to verify them had the lengths and digests that were
-- indexed.
abbrev pub WereVerified : List Archive → Bool → Option Fault → Type 0
WereVerified named verify (Some fault) = ⊤
WereVerified named verify None = OnTrue verify ((read : List (List ℕ)) × AreVerified named read)

-- the reply for this many messages, or for a fault
abbrev pub reply_of : Result ℕ Fault → Reply
reply_of (Ok messages) = record { status = status_of_count messages; messages = messages; fault = None }
reply_of (Err fault) = record { status = status_of_fault fault; messages = 0; fault = Some fault }

-- the reply and its whole text; or a fault of a device or of memory, and a front of the text
abbrev pub RepliesBy : (Answer → Type 0) → Reply → Option (List ℕ) → Option (List ℕ) → Type 0
RepliesBy Is reply old new =
    MatchBool (is_failure reply.fault)
    ((answer : Answer) → Is answer → Sends old new answer.text)
    ((answer : Answer) × Is answer × (reply ≡ answer.reply) × Appends old new answer.text)

-- the fault is this one, unless memory ran out
abbrev pub IsThisOrMemory : Fault → Option Fault → Type 0
IsThisOrMemory refusal fault = MatchBool (is_memory fault) ⊤ (fault ≡ Some refusal)

-- why nothing is indexed: words, rcfile or query are refused, otherwise an archive is faulty; or memory ran out
abbrev pub IsUnindexed : Result Wanted Fault → List (List ℕ) → Fault → Type 0
IsUnindexed (Err refusal) bytes fault = IsThisOrMemory refusal (Some fault)
IsUnindexed (Ok w) bytes fault = IsArchivesFault (mboxes w.paths bytes) fault

-- a refusal of an index for what is wanted: it isn't an index file, otherwise it is too old, otherwise it has other
-- paths
abbrev pub IsIndexRefusal : Wanted → List ℕ → Fault → Type 0
IsIndexRefusal w index (Index f) = IsFirstFaultOfFile index f
IsIndexRefusal w index OldIndex = (t : Table) × IsFileOfTable index t × (is_too_old t w ≡ true)
IsIndexRefusal w index (Stale n) =
    (t : Table) × IsFileOfTable index t × (is_too_old t w ≡ false) × (renamed_archive t.archives w.paths ≡ Some n)
IsIndexRefusal w index _ = ⊥

-- a refusal of a stored search, which comes before any archive is read, whatever bytes the archives have
abbrev pub IsRefusedAs : Result Wanted Fault → List ℕ → Fault → Type 0
IsRefusedAs (Err refusal) index fault = fault ≡ refusal
IsRefusedAs (Ok w) index fault = IsIndexRefusal w index fault

-- a fault of words, rcfile, query, index or its version comes only if that is refused with it
abbrev pub IsForNoOtherCause : Result Wanted Fault → List ℕ → Fault → Type 0
IsForNoOtherCause asked index fault = OnTrue (is_early (Some fault) || is_of_index (Some fault))
    (IsRefusedAs asked index fault)

-- The reply is the number of the messages that the table chooses, and a text was sent: the known one, if there is a
-- known one.
abbrev pub IsCounted : Table → Search → Option (List (List ℕ)) → Reply → Option (List ℕ) → Option (List ℕ) → Type 0
IsCounted t s held reply old new =
    (numbers : List ℕ) × AreChosen (mail_of_table t) s numbers
    × (reply ≡ record { status = status_of_count (length numbers); messages = length numbers; fault = None })
    × (text : List ℕ) × IsIfKnown (known_answer s.format t held numbers) text × Appends old new text

-- without a fault, the reply and the text are right; with one, nothing is said
abbrev pub IsCountedWhere : Table → Search → Option (List (List ℕ)) → Option Fault → Reply → Option (List ℕ)
    → Option (List ℕ) → Type 0
IsCountedWhere t s held None reply old new = IsCounted t s held reply old new
IsCountedWhere t s held (Some fault) reply old new = ⊤
