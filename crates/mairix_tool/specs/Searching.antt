-- What a run does to archives and output, whether the archives' bytes are known or not: in which order it reads them,
-- and what is sent.
use Rattle.std.specs.Prelude.{◌≡◌, ◌≢◌, ◌⊎◌, ℕ, Bool, List, length, Option, None, IfSome, Result, Ok, Err, is_err}
use Rattle.std.specs.Prelude.{false}
use Rattle.std.specs.Bool.{MatchBool}
use Rattle.contract_words.specs.Answers.{fault_as}
use Rattle.contract_words.specs.Knowledge.{AreStillKnown}
use Rattle.index_job.specs.ArchiveTables.{table}
use Rattle.index_run.specs.ArchivesIndexed.{mboxes}
use Rattle.mail_answer.specs.Answers.{AnswersStale, SendsSpans, kind_of}
use Rattle.mail_answer.specs.Asked.{HoldsArchives, ReadsInOrder, RefusesCount}
use Rattle.mail_answer.specs.Mail.{Search, AreChosen}
use Rattle.mail_answer.specs.Stale.{stale_archive}
use Rattle.mail_answer.specs.TableAnswers.{SendsTableAnswer, IsTableAnswer, LeavesOutput, TableAnswer, mail_of_table}
use Rattle.mail_answer.specs.Verified.{ReportsVerified, VerifiesArchives}
use Rattle.mail_answer.specs.declared.archives.Archives.{Ghosts}
use Rattle.mail_answer.specs.declared.fault.AnswerFault.{AnswerFault}
use Rattle.mail_answer.specs.declared.format.Format.TheVariants.{Mbox}
use Rattle.mail_index.specs.Tables.{Archive, IsWellFormed, Table}
use Rattle.mbox_cutter.specs.declared.device.Out.{Ghosts as OutGhosts}
use Rattle.run_faults.specs.Faults.{IsOfIndexing}
use Rattle.run_faults.specs.declared.fault.Fault.{Fault}
use Rattle.run_faults.specs.declared.fault.Fault.TheVariants.{Memory}
use Rattle.mairix_tool.specs.Asked.{Wanted}
use Rattle.mairix_tool.specs.Runs.{fault_of_answer_kind, is_too_old, renamed_archive, reply_of}
use Rattle.mairix_tool.specs.declared.reply.Reply.{Reply}

-- the result of a run if an answer, or what comes before it, returned this
abbrev pub run_of_answer : {T : Type 0} → Result T AnswerFault → Result T Fault
run_of_answer found = fault_as (λ fault. fault_of_answer_kind fault.kind) found

-- A table is searched, and the reply is that of an answer from it, `found`: the number of its messages; or its fault,
-- with the number of bytes that were sent before.
pub record Searches {A O : Type 0} (g : Ghosts A) (h : OutGhosts O) (t : Table) (s : Search) (old new : A)
    (before after : O) (reply : Reply) : Type 0 where
  pub found : Result ℕ AnswerFault
  pub replied : reply ≡ reply_of (run_of_answer found)
  -- the number of the messages that the table chooses, and their text; with a fault, a front of that text
  pub answered : (a : TableAnswer) → IsTableAnswer t s (g.held new) a
      → SendsTableAnswer (h.taken before) (h.taken after) a found
  -- an mbox answer has, for each message, as many bytes as were indexed, closed; with a fault, a front of that
  pub spans : s.format ≡ Mbox → (numbers : List ℕ) → AreChosen (mail_of_table t) s numbers
      → SendsSpans (h.taken before) (h.taken after) t numbers found
  -- archives whose known bytes have another number or length are stale, before anything is written
  pub stale : IfSome (g.held new) (λ bytes. AnswersStale (h.taken before) (h.taken after)
      (stale_archive t.archives bytes) found)
  pub unsent : LeavesOutput s before after found
  pub order : ReadsInOrder g t s old new found
  pub keeps : HoldsArchives g old new

-- ---- by a stored index

-- Archives are verified against those that were indexed.
pub record Verifies {A : Type 0} (g : Ghosts A) (named : List Archive) (old new : A)
    (found : Result (Unit {0}) AnswerFault) : Type 0 where
  pub keeps : HoldsArchives g old new
  -- if the number of archives isn't the one that was indexed, none is read, and the smaller number is stale
  pub other_count : g.number old ≢ length named → RefusesCount g named old new found
  -- If it is, the lengths are read first, each once and in order. Then each archive is read, once and in order, up to
  -- the first that isn't the one that was indexed.
  pub read : g.number old ≡ length named → VerifiesArchives g named old new found
  -- what is known of their bytes decides, unless a device or memory fails
  pub known : IfSome (g.held new) (λ bytes. ReportsVerified named bytes (kind_of found))

-- If that is wanted, archives are verified. If not, none is read.
abbrev pub VerifiesWhere : {A : Type 0} → Ghosts A → Bool → List Archive → A → A → Result (Unit {0}) Fault → Type 0
VerifiesWhere g verify named old new result =
    MatchBool verify
    ((found : Result (Unit {0}) AnswerFault) × Verifies g named old new found × (result ≡ run_of_answer found))
    ((new ≡ old) × (is_err result ≡ false))

-- Verified archives are searched. With a fault, nothing more is read and nothing is sent.
abbrev pub SearchesVerified : {A O : Type 0} → Ghosts A → OutGhosts O → Table → Search → Result (Unit {0}) AnswerFault
    → A → A → O → O → Reply → Type 0
SearchesVerified g h t s (Ok verified) old new before after reply = Searches g h t s old new before after reply
SearchesVerified g h t s (Err fault) old new before after reply =
    (reply ≡ reply_of (run_of_answer (Err fault))) × (new ≡ old) × (after ≡ before)

-- The archives are verified, and then searched.
abbrev pub VerifiesAndSearches : {A O : Type 0} → Ghosts A → OutGhosts O → Table → Search → A → A → O → O → Reply
    → Type 0
VerifiesAndSearches {A} g h t s old new before after reply =
    (read : A) × (found : Result (Unit {0}) AnswerFault) × Verifies g t.archives old read found
    × SearchesVerified g h t s found read new before after reply

-- A table is searched for what is wanted. If it is wanted, the archives are verified before.
abbrev pub SearchesFor : {A O : Type 0} → Ghosts A → OutGhosts O → Wanted → Table → A → A → O → O → Reply → Type 0
SearchesFor g h w t old new before after reply =
    MatchBool w.verify (VerifiesAndSearches g h t w.search old new before after reply)
    (Searches g h t w.search old new before after reply)

-- For a fault with this cause, no archive is read, and nothing is sent.
pub record AsksNothing {A O : Type 0} (IsCause : Fault → Type 0) (old new : A) (before after : O) (reply : Reply) : Type
    0 where
  pub fault : Fault
  pub cause : IsCause fault
  pub replied : reply ≡ reply_of (Err fault)
  pub archives : new ≡ old
  pub out : after ≡ before

-- The table of an index of these paths that isn't too old is searched, unless memory runs out before.
abbrev pub SearchesStored : {A O : Type 0} → Ghosts A → OutGhosts O → Wanted → Table → A → A → O → O → Reply → Type 0
SearchesStored g h w t old new before after reply =
    is_too_old t w ≡ false → renamed_archive t.archives w.paths ≡ None
    → AsksNothing (λ fault. fault ≡ Memory) old new before after reply ⊎ SearchesFor g h w t old new before after reply

-- ---- by an index that the run makes itself

-- What was indexed has this table, which is well-formed. If the bytes of the sources are known, and still after they
-- were read, it is the table of their archives.
pub record IsIndexedTable (paths : List (List ℕ)) (before after : List (Option (List ℕ))) (t : Table) : Type 0 where
  pub formed : IsWellFormed t
  pub known : (bytes : List (List ℕ)) → AreStillKnown before after bytes → t ≡ table (mboxes paths bytes)

-- The archives are indexed, and their table is searched; or they aren't indexed.
abbrev pub IndexesAndSearches : {A O : Type 0} → Ghosts A → OutGhosts O → Wanted → List (Option (List ℕ))
    → List (Option (List ℕ)) → A → A → O → O → Reply → Type 0
IndexesAndSearches g h w unread read old new before after reply =
    AsksNothing IsOfIndexing old new before after reply
    ⊎ ((t : Table) × IsIndexedTable w.paths unread read t × Searches g h t w.search old new before after reply)
