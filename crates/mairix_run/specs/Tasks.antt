-- What a run has to do, by its words and by what names lead to.
use Rattle.std.specs.Prelude.{◌≡◌, ◌⊎◌, ℕ, ◌==◌, ◌≤◌, ◌^◌, Bool, not, ◌&&◌, if◌then◌else◌, List, [], ◌∷◌, length}
use Rattle.std.specs.Prelude.{Option, None, Some, Result, Ok, Err}
use Rattle.std.specs.Option.{option_map_or}
use Rattle.contract_words.specs.Answers.{◌>>=◌, fault_as}
use Rattle.index_job.specs.ArchiveRefusals.{AreSound}
use Rattle.index_job.specs.ArchiveTables.{Mbox, table}
use Rattle.index_run.specs.ArchivesIndexed.{RefusesArchives, mboxes}
use Rattle.mail_index.specs.Files.{index_file}
use Rattle.mairix_options.specs.AnswerFiles.{answer_file}
use Rattle.mairix_options.specs.CommandLine.{plan}
use Rattle.mairix_options.specs.Rcfile.{rc_of}
use Rattle.mairix_options.specs.declared.command_line.Plan.{Plan}
use Rattle.mairix_options.specs.declared.command_line.UsageFault.{UsageFault}
use Rattle.mairix_options.specs.declared.rcfile.Rc.{Rc}
use Rattle.mairix_options.specs.declared.rcfile.RcFault.{RcFault}
use Rattle.mairix_tool.specs.Asked.{Wanted, wanted_of_words}
use Rattle.mairix_tool.specs.Replies.{Answer, answer_of_fault}
use Rattle.mairix_tool.specs.Runs.{IsReply, IsStoredReply}
use Rattle.named_files.specs.Entries.{Entry, bytes_of}
use Rattle.run_faults.specs.declared.fault.Fault.{Fault}
use Rattle.run_faults.specs.declared.fault.Fault.TheVariants.{Usage, Rc as OfRc, TooMany}
use Rattle.mairix_run.specs.Stops.{Ending}
use Rattle.mairix_run.specs.Stops.Ending.{CannotOpen, Because}

-- What is written: the index of archives; the answer of archives that are indexed in memory; or that of a stored index,
-- over archives.
pub data Work : Type 0 where
  Index : List Mbox → Work
  SearchNew : Result Wanted Fault → List (List ℕ) → Work
  SearchStored : Result Wanted Fault → List ℕ → List (List ℕ) → Work

-- What a run has to do.
pub record Task : Type 0 where
  pub work : Work
  -- the name of the file that it makes; None if it writes to standard output
  pub file : Option (List ℕ)
  -- the names of the files that it reads, which no other file may replace
  pub read : List (List ℕ)

-- ---- by the words

-- the bytes of the file with this name; the run can't open anything else
abbrev pub file_at : (List ℕ → Entry) → List ℕ → Result (List ℕ) Ending
file_at holds name = option_map_or Ok (bytes_of (holds name)) (Err (CannotOpen name))

-- the bytes of all these files, unless the first that is none can't be opened
abbrev pub files_at : (List ℕ → Entry) → List (List ℕ) → Result (List (List ℕ)) Ending
files_at holds [] = Ok []
files_at holds (name ∷ names) = file_at holds name >>= λ bytes. files_at holds names >>= λ rest. Ok (bytes ∷ rest)

-- whether a run makes an index: without a pattern and without `--once`
abbrev pub is_index_run : Plan → Bool
is_index_run p = (length p.patterns == 0) && not p.once

-- the names of the files that an index run reads, and those of a search
abbrev pub names_indexed : Plan → Rc → List (List ℕ)
names_indexed p rc = p.rcfile ∷ rc.paths

abbrev pub names_searched : Plan → Rc → List (List ℕ)
names_searched p rc = p.rcfile ∷ rc.database ∷ rc.paths

-- an index of these archives, in the rcfile's `database`
abbrev pub index_task : Plan → Rc → List (List ℕ) → Task
index_task p rc bytes = record {
  work = Index (mboxes rc.paths bytes);
  file = Some rc.database;
  read = names_indexed p rc;
}

-- a search, whose answer goes to the file that words and rcfile name, or to standard output
abbrev pub search_task : Plan → Rc → Work → Task
search_task p rc work = record {
  work = work;
  file = answer_file p rc;
  read = names_searched p rc;
}

-- a search by the index in the rcfile's `database`, which has to be there
abbrev pub search_stored_task : (List ℕ → Entry) → Result Wanted Fault → Plan → Rc → List (List ℕ) → Result Task Ending
search_stored_task holds wanted p rc bytes =
    file_at holds rc.database >>= λ index. Ok (search_task p rc (SearchStored wanted index bytes))

-- the task over these archives: a stored index is read only if it is used
abbrev pub task_over : (List ℕ → Entry) → Result Wanted Fault → Plan → Rc → List (List ℕ) → Result Task Ending
task_over holds wanted p rc bytes =
    if is_index_run p then Ok (index_task p rc bytes)
    else (if p.once then Ok (search_task p rc (SearchNew wanted bytes))
    else search_stored_task holds wanted p rc bytes)

-- the task of an rcfile, whose archives have to be there
abbrev pub task_of_rc : (List ℕ → Entry) → Result Wanted Fault → Plan → Rc → Result Task Ending
task_of_rc holds wanted p rc = files_at holds rc.paths >>= task_over holds wanted p rc

-- why a run ends: words, or an rcfile, are refused
abbrev pub because_usage : UsageFault → Ending
because_usage fault = Because (Usage fault)

abbrev pub because_rc : RcFault → Ending
because_rc fault = Because (OfRc fault)

-- The task of a plan: the first that counts is an rcfile that isn't there, then its fault, then an archive that isn't
-- there, then the index.
abbrev pub task_of_plan : (List ℕ → Entry) → List (List ℕ) → ℕ → Plan → Result Task Ending
task_of_plan holds words now p = file_at holds p.rcfile >>= λ text. fault_as because_rc (rc_of text)
    >>= task_of_rc holds (wanted_of_words words text now) p

-- the task of the words after the program's name, at this moment; otherwise the run ends by the first refusal
abbrev pub task_of : (List ℕ → Entry) → List (List ℕ) → ℕ → Result Task Ending
task_of holds words now = fault_as because_usage (plan words) >>= task_of_plan holds words now

-- the answer of a search: of a stored index, or of archives that are indexed in memory
abbrev pub search_work : Result Wanted Fault → Option (List ℕ) → List (List ℕ) → Work
search_work wanted None bytes = SearchNew wanted bytes
search_work wanted (Some index) bytes = SearchStored wanted index bytes

-- ---- what is written

-- an answer with this status and this text is one of these
abbrev pub IsAnswered : (Answer → Type 0) → ℕ → List ℕ → Type 0
IsAnswered Is status text = (answer : Answer) × Is answer × (answer.reply.fault ≡ None)
    × (answer.reply.status ≡ status) × (answer.text ≡ text)

-- the refusal with this fault is one of these answers; or there are 2^32 archives or more, which no index can name
abbrev pub IsRefusedSearch : (Answer → Type 0) → List (List ℕ) → Fault → Type 0
IsRefusedSearch Is archives fault = Is (answer_of_fault fault) ⊎ ((2 ^ 32 ≤ length archives) × (fault ≡ TooMany))

-- the work is done with this status and this text
unfoldable pub IsDone : Work → ℕ → List ℕ → Type 0
IsDone (Index archives) status text = (status ≡ 0) × AreSound archives × (text ≡ index_file (table archives))
IsDone (SearchNew wanted bytes) status text = IsAnswered (IsReply wanted bytes) status text
IsDone (SearchStored wanted index bytes) status text = IsAnswered (IsStoredReply wanted index bytes) status text

-- the work is refused with this fault
unfoldable pub IsWorkRefused : Work → Fault → Type 0
IsWorkRefused (Index archives) fault = RefusesArchives archives fault
IsWorkRefused (SearchNew wanted bytes) fault = IsRefusedSearch (IsReply wanted bytes) bytes fault
IsWorkRefused (SearchStored wanted index bytes) fault = IsRefusedSearch (IsStoredReply wanted index bytes) bytes fault
