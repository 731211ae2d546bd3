-- Runs whose tasks and names, and names whose refusals, were worked out by hand.
use Rattle.std.specs.Prelude.{◌≡◌, ℕ, ◌==◌, Bool, true, false, not, if◌then◌else◌, List, [], ◌∷◌, ◌++◌, codes, Option}
use Rattle.std.specs.Prelude.{None, Some, Result, Ok, Err}
use Rattle.std.specs.List.{slice_split}
use Rattle.std.specs.Str.{bytes_eq}
use Rattle.mail_answer.specs.declared.format.Format.{Format}
use Rattle.mail_answer.specs.declared.format.Format.TheVariants.{Mbox as AsMbox, Raw}
use Rattle.mail_index.specs.Files.{magic}
use Rattle.mail_query.specs.Kinds.{no_kinds}
use Rattle.mail_query.specs.Query.{Word}
use Rattle.mail_query.specs.declared.fault.QueryFaultKind.TheVariants.{BadPrefix}
use Rattle.mairix_options.specs.CommandLine.{plan}
use Rattle.mairix_options.specs.declared.command_line.UsageFault.TheVariants.{Parse}
use Rattle.mairix_tool.specs.Asked.{Wanted}
use Rattle.named_files.specs.Entries.{Entry, Nothing, File}
use Rattle.run_faults.specs.declared.fault.Fault.{Fault}
use Rattle.run_faults.specs.declared.fault.Fault.TheVariants.{Query, Usage}
use Rattle.mairix_run.specs.NamesUsed.{names_used}
use Rattle.mairix_run.specs.Stops.{Ending}
use Rattle.mairix_run.specs.Stops.Ending.{CannotOpen, Because}
use Rattle.mairix_run.specs.Tasks.{Task, Work, task_of}
use Rattle.mairix_run.specs.Tasks.Work.{Index, SearchNew, SearchStored}
use Rattle.mairix_run.specs.WholeRuns.{refused_name}

-- ---- names, and what they lead to

-- names, each with what it leads to; any other name leads to nothing
abbrev pub NamedEntries : Type 0
NamedEntries = List (List ℕ × Entry)

abbrev pub led_to : NamedEntries → List ℕ → Entry
led_to [] name = Nothing
led_to (n ∷ names) name = if bytes_eq n.0 name then n.1 else led_to names name

-- the rcfile that the runs read
abbrev pub rcfile : List ℕ
rcfile = codes "mbox=a.mbox:b.mbox\ndatabase=m.idx\nmfolder=hits\n"

-- the archives; what they hold doesn't matter here
abbrev pub first : List ℕ
first = codes "the first archive"

abbrev pub second : List ℕ
second = codes "the second archive"

abbrev pub index : List ℕ
index = magic ++ codes "the index"

abbrev pub rcfile_and_archive : NamedEntries
rcfile_and_archive = (codes "a.mbox", File first) ∷ (codes "rc", File rcfile) ∷ []

abbrev pub without_index : NamedEntries
without_index = (codes "b.mbox", File second) ∷ rcfile_and_archive

abbrev pub with_index : NamedEntries
with_index = (codes "m.idx", File index) ∷ without_index

-- ---- what is to be done

-- a run: its words, of which a space parts each two, what names lead to, what it has to do, and which names it uses
pub record TaskRow : Type 0 where
  pub words : List ℕ
  pub names : NamedEntries
  pub task : Result Task Ending
  pub used : List (List ℕ)

-- it has to do that, at noon of 18 May 2003, and uses these names
unfoldable pub IsWorkedTask : TaskRow → Type 0
IsWorkedTask row = let words = slice_split (λ b. b == 32) row.words in
    (task_of (led_to row.names) words 1053259200 ≡ row.task) × (names_used (led_to row.names) (plan words) ≡ row.used)

-- the rcfile and the archives
abbrev pub mail_read : List (List ℕ)
mail_read = codes "rc" ∷ codes "a.mbox" ∷ codes "b.mbox" ∷ []

-- and the index
abbrev pub index_read : List (List ℕ)
index_read = mail_read ++ codes "m.idx" ∷ []

-- the word `search_for_hello` in subjects, with the answer in this form
abbrev pub search_for_hello : Format → Wanted
search_for_hello format = record {
  paths = codes "a.mbox" ∷ codes "b.mbox" ∷ [];
  search =
      record { query = Word (record no_kinds { subject = true }) (codes "hello"); threads = false; format = format };
  verify = false;
}

-- what a search reads
abbrev pub read_of_search : List (List ℕ)
read_of_search = codes "rc" ∷ codes "m.idx" ∷ codes "a.mbox" ∷ codes "b.mbox" ∷ []

-- a search, whose answer goes to this file
abbrev pub search : Option (List ℕ) → Work → Result Task Ending
search file work = Ok (record { work = work; file = file; read = read_of_search })

-- the work of a search by the index in `m.idx`
abbrev pub stored_search : Result Wanted Fault → Work
stored_search wanted = SearchStored wanted index (first ∷ second ∷ [])

-- ---- the runs

abbrev pub refused_words : TaskRow
refused_words = record { words = codes "-f rc -z"; names = with_index; task = Err (Because (Usage Parse)); used = [] }

abbrev pub no_archive : TaskRow
no_archive = record {
  words = codes "-f rc --once s:hello";
  names = rcfile_and_archive;
  task = Err (CannotOpen (codes "b.mbox"));
  used = mail_read ++ (codes "hits" ∷ codes "hits.new" ∷ []);
}

abbrev pub index_run : TaskRow
index_run = record {
  words = codes "-f rc";
  names = without_index;
  task = Ok (record {
    work = Index (record { path = codes "a.mbox"; bytes = first } ∷ record { path = codes "b.mbox"; bytes = second } ∷
        []);
    file = Some (codes "m.idx");
    read = mail_read;
  });
  used = index_read ++ codes "m.idx.new" ∷ [];
}

abbrev pub once : TaskRow
once = record {
  words = codes "-f rc --once -r s:hello";
  names = without_index;
  task = search None (SearchNew (Ok (search_for_hello Raw)) (first ∷ second ∷ []));
  used = mail_read;
}

abbrev pub no_index : TaskRow
no_index = record {
  words = codes "-f rc -r s:hello";
  names = without_index;
  task = Err (CannotOpen (codes "m.idx"));
  used = index_read;
}

abbrev pub to_mfolder : TaskRow
to_mfolder = record {
  words = codes "-f rc s:hello";
  names = with_index;
  task = search (Some (codes "hits")) (stored_search (Ok (search_for_hello AsMbox)));
  used = index_read ++ (codes "hits" ∷ codes "hits.new" ∷ []);
}

abbrev pub to_output : TaskRow
to_output = record {
  words = codes "-f rc --stdout s:hello";
  names = with_index;
  task = search None (stored_search (Ok (search_for_hello AsMbox)));
  used = index_read;
}

-- all files are read before the query is refused
abbrev pub query_after_files : TaskRow
query_after_files = record {
  words = codes "-f rc -r q:hello";
  names = with_index;
  task = search None (stored_search (Err (Query (record { number = 1; kind = BadPrefix }))));
  used = index_read;
}

-- ---- which names are refused

-- a file that is to be made: its work, the names that the run reads, the file's name, what names lead to, which names
-- killed runs left, and which name is refused
pub record NameRow : Type 0 where
  pub work : Work
  pub read : List (List ℕ)
  pub name : List ℕ
  pub names : NamedEntries
  pub is_leftover : List ℕ → Bool
  pub refused : Option (List ℕ)

-- that name is refused, or none is; without links, two names are apart if they are different
unfoldable pub IsRefusedAsWorked : NameRow → Type 0
IsRefusedAsWorked row =
    refused_name (led_to row.names) (λ a b. not (bytes_eq a b)) row.is_leftover row.work row.read row.name ≡ row.refused

-- the index `m.idx`
abbrev pub new_index : NamedEntries → (List ℕ → Bool) → Option (List ℕ) → NameRow
new_index names is_leftover refused = record {
  work = Index [];
  read = mail_read;
  name = codes "m.idx";
  names = names;
  is_leftover = is_leftover;
  refused = refused;
}

abbrev pub old_index : NameRow
old_index = new_index with_index (λ n. false) None

abbrev pub name_of_mail : NameRow
name_of_mail = new_index ((codes "m.idx", File (codes "\nFrom a@x.org Thu Jan  2 10:00:00 2003\n")) ∷ [])
    (λ n. false) (Some (codes "m.idx"))

abbrev pub left_by_killed : NameRow
left_by_killed = new_index ((codes "m.idx.new", File (codes "MAIRIX")) ∷ []) (bytes_eq (codes "m.idx.new")) None

-- an answer
abbrev pub name_of_archive : NameRow
name_of_archive = record {
  work = SearchNew (Ok (search_for_hello AsMbox)) (first ∷ second ∷ []);
  read = read_of_search;
  name = codes "a.mbox";
  names = with_index;
  is_leftover = λ n. false;
  refused = Some (codes "a.mbox");
}
