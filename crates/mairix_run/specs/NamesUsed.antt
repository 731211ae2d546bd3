-- Which names a run uses, by its words and by what names lead to. The system can refuse a call on each of them.
use Rattle.std.specs.Prelude.{ℕ, ◌||◌, List, [], ◌∷◌, ◌++◌, Option, None, Some, Result, Ok, Err, if◌then◌else◌}
use Rattle.std.specs.Option.{option_map_or}
use Rattle.mairix_options.specs.AnswerFiles.{answer_file}
use Rattle.mairix_options.specs.Rcfile.{rc_of}
use Rattle.mairix_options.specs.declared.command_line.Plan.{Plan}
use Rattle.mairix_options.specs.declared.command_line.UsageFault.{UsageFault}
use Rattle.mairix_options.specs.declared.rcfile.Rc.{Rc}
use Rattle.mairix_options.specs.declared.rcfile.RcFault.{RcFault}
use Rattle.named_files.specs.Entries.{Entry, bytes_of}
use Rattle.mairix_run.specs.Tasks.{is_index_run}
use Rattle.mairix_run.specs.WholeRuns.{temporary_of}

-- the name of the file that a run makes: the index, or the answer; None if it writes to standard output
abbrev pub file_asked : Plan → Rc → Option (List ℕ)
file_asked p rc = if is_index_run p then Some rc.database else answer_file p rc

-- both names of such a file: its own, and the one that it has until it is whole
abbrev pub both_names : Option (List ℕ) → List (List ℕ)
both_names None = []
both_names (Some name) = name ∷ temporary_of name ∷ []

-- the name of the index that is searched
abbrev pub names_of_index : Plan → Rc → List (List ℕ)
names_of_index p rc = if p.once || is_index_run p then [] else rc.database ∷ []

-- the names that a plan uses by an rcfile: those of the archives, of the index that is searched, and of the file that
-- is made
abbrev pub names_asked : Plan → Rc → List (List ℕ)
names_asked p rc = rc.paths ++ (names_of_index p rc ++ both_names (file_asked p rc))

-- none if the rcfile is refused
abbrev pub names_of_rc : Plan → Result Rc RcFault → List (List ℕ)
names_of_rc p (Ok rc) = names_asked p rc
names_of_rc p (Err fault) = []

-- the name of the rcfile, and if that is there, the names that its text asks for
abbrev pub names_planned : (List ℕ → Entry) → Plan → List (List ℕ)
names_planned holds p = p.rcfile ∷ option_map_or (λ text. names_of_rc p (rc_of text)) (bytes_of (holds p.rcfile)) []

-- the names that the words use; none if these are refused
abbrev pub names_used : (List ℕ → Entry) → Result Plan UsageFault → List (List ℕ)
names_used holds (Ok p) = names_planned holds p
names_used holds (Err fault) = []

-- ---- which names it may ask for

-- The names that words and rcfile give: those of the archives, the index, and of the file that is made, with its
-- temporary name. An answer is compared with the index even if that isn't searched.
abbrev pub names_given : Plan → Rc → List (List ℕ)
names_given p rc = rc.paths ++ (rc.database ∷ both_names (file_asked p rc))

-- none if the rcfile is refused
abbrev pub names_given_by : Plan → Result Rc RcFault → List (List ℕ)
names_given_by p (Ok rc) = names_given p rc
names_given_by p (Err fault) = []

-- the name of the rcfile, and those that are given by its text
abbrev pub names_of_plan : (List ℕ → Entry) → Plan → List (List ℕ)
names_of_plan holds p =
    p.rcfile ∷ option_map_or (λ text. names_given_by p (rc_of text)) (bytes_of (holds p.rcfile)) []

-- none if the words are refused
abbrev pub names_of_words : (List ℕ → Entry) → Result Plan UsageFault → List (List ℕ)
names_of_words holds (Ok p) = names_of_plan holds p
names_of_words holds (Err fault) = []
