-- The archives are indexed, or searched by an index that is made in memory.
use Rattle.std.proofs.Common.{◌≡◌, ◌∙◌, ◌⊎◌, ◌∷◌, [], refl, sym, subst, ap, List, ℕ, map, Ok, Err, OnOk, false, true, All}
use Rattle.std.specs.Option.{option_map}
use Rattle.index_run.specs.ArchivesIndexed.{mboxes}
use Rattle.mail_index.specs.Tables.{IsPath}
use Rattle.mairix_options.specs.AnswerFiles.{answer_file}
use Rattle.named_archives.specs.States.{AreStatesOf, IsInOneOf}
use Rattle.named_files.proofs.FoundStates.{adds-none}
use Rattle.named_files.specs.Entries.{bytes_of}
use Rattle.named_files.specs.FoundStates.{AreFoundOnly, AreReadInFirstStates}
use Rattle.mairix_run.proofs.FilesAt.{files-known, of-named}
use Rattle.mairix_run.proofs.FirstStates.{in-first-states, ok-then}
use Rattle.mairix_run.proofs.NamesUsed.{archives-asked, file-indexed, new-index-asked, once-asked, stored-asked}
use Rattle.mairix_run.proofs.RunParts.{ran-ended, ran-made, ran-wider}
use Rattle.mairix_run.proofs.RunStages.{archives-end, task-index, task-once, task-stored}
use Rattle.mairix_run.specs.Inside.RunParts.{ReplacesFile}
use Rattle.mairix_run.specs.NamesUsed.{names_asked, both_names}
use Rattle.mairix_run.specs.Stops.{ending_of_result, ending_of_stopped}
use Rattle.mairix_run.specs.Tasks.{files_at, index_task, search_stored_task, search_task, task_of_rc, task_over}
use Rattle.mairix_run.specs.Tasks.Work.{Index, SearchNew}
use Rattle.mairix_run.specs.WholeRuns.{IsTrouble}
use Rattle.mairix_tool.specs.Asked.{asks}
use Rattle.mairix_run.proofs.program.run_asked.Given.{Over}
use Rattle.mairix_run.proofs.program.run_asked.Goals.{After-as_slice-archives, After-as_slice-states}
use Rattle.mairix_run.proofs.program.run_asked.Goals as goal

-- the archives' names are those of the rcfile
archives-of : (g : Over) (c : After-as_slice-archives g)
    → map g.F.Name.FileName.text c.as_slice-archives.result.now ≡ c.args.asked.now.rc.now.paths
archives-of g c =
    ap (map g.F.Name.FileName.text) c.as_slice-archives.ensures.value ∙ c.args.asked.now.archives_named

-- so are their files
files-of : (g : Over) (c : After-as_slice-archives g) (bytes : List (List ℕ))
    → files_at (g.F.Folder.holds c.args.files.now.folder) (map g.F.Name.FileName.text c.as_slice-archives.result.now)
    ≡ Ok bytes → files_at (g.F.Folder.holds c.args.files.now.folder) c.args.asked.now.rc.now.paths ≡ Ok bytes
files-of g c bytes found = ap (files_at (g.F.Folder.holds c.args.files.now.folder)) (sym (archives-of g c)) ∙ found

pub returns-then-is_index_run-clause-ran : goal.returns-then-is_index_run-clause-ran
returns-then-is_index_run-clause-ran g c = λ agree.
    let F = g.F.Folder in
    let ReadsAgree = F.agree c.replace_file.new.files.reads ≡ true in
    let asked = c.args.asked.now in
    let p = asked.plan.now in
    let rc = asked.rc.now in
    let text = g.F.Name.FileName.text in
    let at = (goal.at.returns-then-is_index_run-clause-ran g c).After-as_slice-archives in
    let old = c.args.files.now.folder in
    let new = c.replace_file.new.files.folder in
    let out = c.args.out.now in
    let name = text c.in-Some.file.name in
    let archives = c.as_slice-archives.result.now in
    let found = c.in-Ok.ensures.ok (c.replace_file.ensures.reports.earlier agree) in
    let bytes = found.0 in
    let ended = ending_of_result c.replace_file.result in
    let task = index_task p rc bytes in
    let is = sym c.is_index_run.ensures ∙ c.if-is_index_run.true in
    ran-wider F g.O.Out g.O.Stream.handed_on ReadsAgree (both_names task.file) (names_asked p rc)
    (new-index-asked p rc is) (Ok task) _
    (task-index (F.holds old) (asks asked.words.now asked.text.now asked.now) p rc bytes (files-of g at bytes found.1)
    is)
    old new out out ended (ran-made F g.O.Out g.O.Stream.handed_on ReadsAgree task name
    (file-indexed p rc is ∙ sym asked.file_named ∙ ap (option_map (λ new. text new.name)) c.in-Some.is) old new out
    ended
    (subst (λ (read : List (List ℕ)). ReplacesFile F ReadsAgree (Index (mboxes rc.paths bytes)) read name old new ended)
    (λ i. asked.rcfile_named i ∷ archives-of g at i)
    (subst (λ (paths : List (List ℕ)). ReplacesFile F ReadsAgree (Index (mboxes paths bytes))
    (text asked.rcfile.now ∷ map text archives) name old new ended) c.as_slice.ensures
    (c.replace_file.ensures.run bytes (files-known text (F.holds old) archives bytes found.1) agree))))

pub returns-then-plan-clause-ran : goal.returns-then-plan-clause-ran
returns-then-plan-clause-ran g c = λ agree.
    let F = g.F.Folder in
    let ReadsAgree = F.agree c.run_search.new.files.reads ≡ true in
    let asked = c.args.asked.now in
    let p = asked.plan.now in
    let rc = asked.rc.now in
    let wanted = asks asked.words.now asked.text.now asked.now in
    let old = c.args.files.now.folder in
    let found = c.in-Ok.ensures.ok (c.run_search.ensures.reports.earlier agree) in
    let files = files-of g (goal.at.returns-then-plan-clause-ran g c).After-as_slice-archives found.0 found.1 in
    ran-wider F g.O.Out g.O.Stream.handed_on ReadsAgree (both_names (answer_file p rc)) (names_asked p rc)
    (once-asked p rc c.if-plan.true) (Ok (search_task p rc (SearchNew wanted found.0))) _
    (task-once (F.holds old) wanted p rc found.0 files c.if-plan.true) old c.run_search.new.files.folder c.args.out.now
    c.run_search.new.out (ending_of_result c.run_search.result) (c.run_search.ensures.ran found.0 files agree)

-- the states are those of the archives
states-of : (g : Over) (c : After-as_slice-states g) → AreStatesOf g.F.File.KeptFile.state_found g.F.File.Source.rest
    (map (λ n. bytes_of (g.F.Folder.holds c.args.files.now.folder n)) c.args.asked.now.rc.now.paths)
    c.as_slice-states.result.now
states-of g c =
    let found = g.F.File.KeptFile.state_found in
    let rest = g.F.File.Source.rest in
    let text = g.F.Name.FileName.text in
    let paths = c.args.asked.now.rc.now.paths in
    let holds = g.F.Folder.holds c.args.files.now.folder in
    subst (λ s. AreStatesOf found rest (map (λ n. bytes_of (holds n)) paths) s) (sym c.as_slice-states.ensures.value)
    (of-named (λ files. AreStatesOf found rest files c.in-Ok.states.items) text holds c.as_slice-archives.result.now
    paths
    (ap (map text) c.as_slice-archives.ensures.value ∙ c.args.asked.now.archives_named) c.in-Ok.ensures.states)

pub run_search-requires-clause-states : goal.run_search-requires-clause-states
run_search-requires-clause-states g c =
    states-of g (goal.at.run_search-requires-clause-states g c).After-as_slice-states

pub search_stored-requires-clause-states : goal.search_stored-requires-clause-states
search_stored-requires-clause-states g c =
    states-of g (goal.at.search_stored-requires-clause-states g c).After-as_slice-states

pub replace_file-requires-clause-writable : goal.replace_file-requires-clause-writable
replace_file-requires-clause-writable g c =
    subst (λ (paths : List (List ℕ)). All IsPath paths) (sym c.as_slice.ensures) c.requires.paths

-- not all archives can be opened
pub returns-in-Err-clause-ran : goal.returns-in-Err-clause-ran
returns-in-Err-clause-ran g c = λ agree.
    let F = g.F.Folder in
    let ReadsAgree = F.agree c.args.files.now.reads ≡ true in
    let asked = c.args.asked.now in
    let p = asked.plan.now in
    let rc = asked.rc.now in
    let old = c.args.files.now.folder in
    let wanted = asks asked.words.now asked.text.now asked.now in
    let ended = ending_of_stopped c.in-Err.stopped in
    let task = task_of_rc (F.holds old) wanted p rc in
    let is = subst (λ (paths : List (List ℕ)). (files_at (F.holds old) paths ≡ Err ended)
    ⊎ IsTrouble paths F.can_refuse F.reads_can_fail ended)
    (archives-of g (goal.at.returns-in-Err-clause-ran g c).After-as_slice-archives) (c.in-Err.ensures.err agree) in
    ran-wider F g.O.Out g.O.Stream.handed_on ReadsAgree rc.paths (names_asked p rc) (archives-asked p rc) task task refl
    old old c.args.out.now c.args.out.now ended
    (ran-ended F g.O.Out g.O.Stream.handed_on ReadsAgree rc.paths task old c.args.out.now ended
    (g.met.F.Folder.only_now old)
    (archives-end rc.paths F.can_refuse F.reads_can_fail (files_at (F.holds old) rc.paths)
    (task_over (F.holds old) wanted p rc) ended is))

-- they are searched by a stored index
pub returns-clause-ran : goal.returns-clause-ran
returns-clause-ran g c = λ agree.
    let F = g.F.Folder in
    let ReadsAgree = F.agree c.search_stored.new.files.reads ≡ true in
    let asked = c.args.asked.now in
    let p = asked.plan.now in
    let rc = asked.rc.now in
    let old = c.args.files.now.folder in
    let wanted = asks asked.words.now asked.text.now asked.now in
    let run = c.search_stored in
    let found = c.in-Ok.ensures.ok (run.ensures.reports.earlier agree) in
    let files = files-of g (goal.at.returns-clause-ran g c).After-as_slice-archives found.0 found.1 in
    let is = sym c.is_index_run.ensures ∙ c.if-is_index_run.false in
    ran-wider F g.O.Out g.O.Stream.handed_on ReadsAgree (rc.database ∷ both_names (answer_file p rc)) (names_asked p rc)
    (stored-asked p rc is c.if-plan.false) (search_stored_task (F.holds old) wanted p rc found.0) _
    (task-stored (F.holds old) wanted p rc found.0 files is c.if-plan.false) old run.new.files.folder c.args.out.now
    run.new.out (ending_of_result run.result) (run.ensures.ran found.0 files agree)

-- ---- the states

pub returns-then-plan-clause-in_state : goal.returns-then-plan-clause-in_state
returns-then-plan-clause-in_state g c = λ searches.
    let F = g.F.Folder in
    let old = F.found c.args.files.now.reports in
    let mid = F.found c.states_of.new.reports in
    let new = F.found c.run_search.new.files.reports in
    let reads = F.found c.args.files.now.reads in
    let reads' = F.found c.run_search.new.files.reads in
    let states : List g.row.F-File-State.Denot = c.in-Ok.states.items in
    ok-then (AreFoundOnly (IsInOneOf states) reads reads') (AreReadInFirstStates old new reads reads')
    c.run_search.result
    (subst (λ (s : List g.row.F-File-State.Denot). OnOk c.run_search.result (AreFoundOnly (IsInOneOf s) reads reads'))
    c.as_slice-states.ensures.value c.run_search.ensures.in_state)
    (in-first-states states old mid new reads reads' c.in-Ok.ensures.found
    (c.run_search.ensures.reports.found mid (adds-none mid)))

pub returns-clause-in_state : goal.returns-clause-in_state
returns-clause-in_state g c = λ searches.
    let F = g.F.Folder in
    let old = F.found c.args.files.now.reports in
    let mid = F.found c.states_of.new.reports in
    let new = F.found c.search_stored.new.files.reports in
    let reads = F.found c.args.files.now.reads in
    let reads' = F.found c.search_stored.new.files.reads in
    let states : List g.row.F-File-State.Denot = c.in-Ok.states.items in
    ok-then (AreFoundOnly (IsInOneOf states) reads reads') (AreReadInFirstStates old new reads reads')
    c.search_stored.result
    (subst (λ (s : List g.row.F-File-State.Denot). OnOk c.search_stored.result
    (AreFoundOnly (IsInOneOf s) reads reads'))
    c.as_slice-states.ensures.value c.search_stored.ensures.in_state)
    (in-first-states states old mid new reads reads' c.in-Ok.ensures.found
    (c.search_stored.ensures.reports.found mid (adds-none mid)))

pub returns-then-is_index_run-clause-in_state : goal.returns-then-is_index_run-clause-in_state
returns-then-is_index_run-clause-in_state g c = λ searches.
    let is : false ≡ true = sym (c.is_index_run.ensures ∙ searches) ∙ c.if-is_index_run.true in absurd cc
