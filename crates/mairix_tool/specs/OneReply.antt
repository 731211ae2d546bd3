-- Where a run has more than one reply.
use Rattle.std.specs.Prelude.{◌≡◌, ◌⊎◌, ℕ, List, length, Result, Ok, Err}
use Rattle.index_job.specs.ArchiveRefusals.{IsCutOff, IsOneTooMany}
use Rattle.index_job.specs.ArchiveTables.{Mbox}
use Rattle.index_run.specs.ArchivesIndexed.{Parted, mboxes}
use Rattle.mbox_cutter.specs.declared.event.CutFault.TheVariants.{ArchiveTooLong}
use Rattle.run_faults.specs.declared.fault.Fault.{Fault}
use Rattle.run_faults.specs.declared.fault.Fault.TheVariants.{Archive, TooMany}
use Rattle.mairix_tool.specs.Asked.{Wanted}
use Rattle.mairix_tool.specs.Replies.{Answer, answer_of_fault}

-- The archives before that of this number are sound. It is too long, and with it there are too many messages or keys.
pub record IsRefusedTwice (archives : List Mbox) (number : ℕ) : Type 0 where
  pub before : List Mbox
  pub last : Mbox
  pub parted : Parted archives before last
  pub numbered : number ≡ length before
  pub long : IsCutOff before last ArchiveTooLong
  pub many : IsOneTooMany before last

-- one of its two refusals
abbrev pub IsEither : ℕ → Answer → Type 0
IsEither number answer = (answer ≡ answer_of_fault (Archive number ArchiveTooLong)) ⊎ (answer ≡ answer_of_fault TooMany)

-- both are refusals of one archive, which is refused twice
abbrev pub AreOfOneArchive : List Mbox → Answer → Answer → Type 0
AreOfOneArchive archives a b = (number : ℕ) × IsRefusedTwice archives number × IsEither number a × IsEither number b

-- two replies of one run are one, unless an archive is refused twice
abbrev pub AreOneReply : Result Wanted Fault → List (List ℕ) → Answer → Answer → Type 0
AreOneReply (Err fault) bytes a b = a ≡ b
AreOneReply (Ok w) bytes a b = (a ≡ b) ⊎ AreOfOneArchive (mboxes w.paths bytes) a b
