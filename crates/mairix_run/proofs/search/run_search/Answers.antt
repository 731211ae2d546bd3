-- The answer goes to a file, or to standard output.
use Rattle.std.proofs.Common.{◌≡◌, ◌∙◌, ◌∷◌, sym, subst, ap, List, ℕ, map, true, Some, Ok}
use Rattle.std.specs.Option.{option_map}
use Rattle.mairix_options.specs.AnswerFiles.{answer_file}
use Rattle.named_archives.specs.Names.{files_of}
use Rattle.mairix_run.proofs.FilesAt.{files-known}
use Rattle.mairix_run.proofs.NamesUsed.{file-searched}
use Rattle.mairix_run.proofs.RunParts.{ran-made, ran-printed}
use Rattle.mairix_run.specs.Inside.RunParts.{ReplacesFile}
use Rattle.mairix_run.specs.Stops.{ending_of_result}
use Rattle.mairix_run.specs.Tasks.{files_at, search_task, search_work}
use Rattle.mairix_tool.specs.Asked.{asks}
use Rattle.mairix_run.proofs.search.run_search.Given.{Over}
use Rattle.mairix_run.proofs.search.run_search.Goals.{After-as_slice-archives}
use Rattle.mairix_run.proofs.search.run_search.Goals as goal

-- the archives' names are those of the rcfile
archives-of : (g : Over) (c : After-as_slice-archives g)
    → map g.F.Name.FileName.text c.as_slice-archives.result.now ≡ c.args.asked.now.rc.now.paths
archives-of g c =
    ap (map g.F.Name.FileName.text) c.as_slice-archives.ensures.value ∙ c.args.asked.now.archives_named

-- so what is known of the archives is known of the rcfile's names
known : (g : Over) (c : After-as_slice-archives g) (bytes : List (List ℕ))
    → files_at (g.F.Folder.holds c.args.files.now.folder) c.args.asked.now.rc.now.paths ≡ Ok bytes
    → files_of g.F.Name.FileName.text (g.F.Folder.holds c.args.files.now.folder) c.as_slice-archives.result.now
    ≡ map Some bytes
known g c bytes files =
    let holds = g.F.Folder.holds c.args.files.now.folder in
    files-known g.F.Name.FileName.text holds c.as_slice-archives.result.now bytes
    (ap (files_at holds) (archives-of g c) ∙ files)

pub returns-in-Some-clause-ran : goal.returns-in-Some-clause-ran
returns-in-Some-clause-ran g c = λ bytes files agree.
    let F = g.F.Folder in
    let asked = c.args.asked.now in
    let p = asked.plan.now in
    let rc = asked.rc.now in
    let old = c.args.files.now.folder in
    let new = c.replace_file.new.files.folder in
    let text = g.F.Name.FileName.text in
    let name = text c.in-Some.file.name in
    let ended = ending_of_result c.replace_file.result in
    let work = search_work (asks asked.words.now asked.text.now asked.now) (option_map (λ index. index.now)
    c.args.index)
    bytes in
    let some : answer_file p rc ≡ Some name =
    file-searched p rc c.requires.searches ∙ sym asked.file_named ∙ ap (option_map (λ new. text new.name)) c.in-Some.is
    in
    let at = (goal.at.returns-in-Some-clause-ran g c).After-as_slice-archives in
    let ReadsAgree = F.agree c.replace_file.new.files.reads ≡ true in
    ran-made F g.O.Out g.O.Stream.handed_on ReadsAgree (search_task p rc work) name some old new c.args.out.now ended
    (subst (λ (r : List (List ℕ)). ReplacesFile F ReadsAgree work r name old new ended)
    (λ i. asked.rcfile_named i ∷ asked.database_named i ∷ archives-of g at i)
    (c.replace_file.ensures.run bytes (known g at bytes files) agree))

pub returns-in-None-clause-ran : goal.returns-in-None-clause-ran
returns-in-None-clause-ran g c = λ bytes files agree.
    let F = g.F.Folder in
    let asked = c.args.asked.now in
    let old = c.args.files.now.folder in
    let text = g.F.Name.FileName.text in
    let work = search_work (asks asked.words.now asked.text.now asked.now) (option_map (λ index. index.now)
    c.args.index)
    bytes in
    ran-printed F g.O.Out g.O.Stream.handed_on (F.agree c.print_answer.new.reports ≡ true)
    (search_task asked.plan.now asked.rc.now work)
    (file-searched asked.plan.now asked.rc.now c.requires.searches ∙ sym asked.file_named
    ∙ ap (option_map (λ new. text new.name)) c.in-None.is) old c.args.out.now c.print_answer.new.out
    (ending_of_result c.print_answer.result)
    (g.met.F.Folder.only_now old) (c.print_answer.ensures.run bytes
    (known g (goal.at.returns-in-None-clause-ran g c).After-as_slice-archives bytes files))
