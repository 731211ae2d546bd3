-- The search of what was read of an index is the search of the whole file.
use Rattle.std.proofs.Common.{◌≡◌, ◌∷◌, sym, subst, ℕ, List, Result, Ok, IfOk, true, Err}
use Rattle.std.specs.List.{Contains}
use Rattle.std.specs.Option.{option_map_or}
use Rattle.contract_words.specs.Answers.{◌>>=◌}
use Rattle.mairix_options.specs.AnswerFiles.{answer_file}
use Rattle.named_files.specs.Entries.{File, IsFileOf, bytes_of}
use Rattle.mairix_run.proofs.LikeWorks.{alike-read, ran-alike}
use Rattle.mairix_run.proofs.NamesUsed.{contains-first, contains-more}
use Rattle.mairix_run.proofs.RunParts.{ran-ended, ran-wider}
use Rattle.mairix_run.proofs.RunStages.{Ends, given-ok, read-fails, stored-read}
use Rattle.mairix_run.specs.IndexReads.{IsIndexRead}
use Rattle.mairix_run.specs.NamesUsed.{both_names}
use Rattle.mairix_run.specs.Stops.{Ending, IsGivenUnlessRefused, ending_of_result, ending_of_stopped}
use Rattle.mairix_run.specs.Stops.Ending.{CannotOpen}
use Rattle.mairix_run.specs.Tasks.{Task, search_stored_task, search_task}
use Rattle.mairix_run.specs.Tasks.Work.{SearchStored}
use Rattle.mairix_tool.specs.Asked.{asks}
use Rattle.mairix_run.proofs.program.search_stored.Goals as goal

pub returns-clause-ran : goal.returns-clause-ran
returns-clause-ran g c = λ bytes files agree.
    let F = g.F.Folder in
    let asked = c.args.asked.now in
    let p = asked.plan.now in
    let rc = asked.rc.now in
    let old = c.args.files.now.folder in
    let ReadsAgree = F.agree c.run_search.new.files.reads ≡ true in
    let wanted = asks asked.words.now asked.text.now asked.now in
    let path = g.F.Name.FileName.text asked.names.now.database in
    let given = given-ok c.as_str.result.now c.read_named-index.result c.in-Ok.index c.in-Ok.ensures.given in
    let read : IsFileOf (λ all. IsIndexRead all c.in-Ok.index.items) (F.holds old path) =
    subst (λ r. IfOk r (λ b. F.agree c.read_named-index.new.reports ≡ true
    → IsFileOf (λ all. IsIndexRead all b.items) (F.holds old path))) given c.read_named-index.ensures.bytes
    (c.run_search.ensures.reports.earlier agree) in
    let all = read.0 in
    let is : IsIndexRead all c.as_slice.result.now =
    subst (λ b. IsIndexRead all b) (sym c.as_slice.ensures.value) read.1 in
    let ended = ending_of_result c.run_search.result in
    let names = both_names (answer_file p rc) in
    let task : Result Task Ending = Ok (search_task p rc (SearchStored wanted all bytes)) in
    let ran = ran-alike wanted c.as_slice.result.now all bytes (alike-read wanted all c.as_slice.result.now bytes is)
    F g.O.Out g.O.Stream.handed_on ReadsAgree names p rc old c.run_search.new.files.folder c.args.out.now
    c.run_search.new.out ended
    (c.run_search.ensures.ran bytes files agree) in
    ran-wider F g.O.Out g.O.Stream.handed_on ReadsAgree names (rc.database ∷ names)
    (λ n. contains-more rc.database n names) task _ (stored-read (F.holds old) wanted p rc bytes all
    (subst (λ n. F.holds old n ≡ File all) asked.database_named read.2)) old c.run_search.new.files.folder
    c.args.out.now
    c.run_search.new.out ended ran

-- the index can't be read
pub returns-in-Err-clause-ran : goal.returns-in-Err-clause-ran
returns-in-Err-clause-ran g c = λ bytes files agree.
    let F = g.F.Folder in
    let asked = c.args.asked.now in
    let p = asked.plan.now in
    let rc = asked.rc.now in
    let old = c.args.files.now.folder in
    let wanted = asks asked.words.now asked.text.now asked.now in
    let path = g.F.Name.FileName.text asked.names.now.database in
    let made = both_names (answer_file p rc) in
    let names = rc.database ∷ made in
    let ended = ending_of_stopped c.in-Err.stopped in
    let next : List ℕ → Result Task Ending = λ index. Ok (search_task p rc (SearchStored wanted index bytes)) in
    ran-ended F g.O.Out g.O.Stream.handed_on (F.agree c.args.files.now.reads ≡ true) names
    (search_stored_task (F.holds old) wanted p rc bytes) old
    c.args.out.now ended (g.met.F.Folder.only_now old)
    (subst (λ n. Ends names F.can_refuse F.reads_can_fail
    (option_map_or Ok (bytes_of (F.holds old n)) (Err (CannotOpen n)) >>= next) ended) asked.database_named
    (read-fails names F.can_refuse F.reads_can_fail c.read_named-index.result (bytes_of (F.holds old path)) path next
    c.in-Err.stopped (subst (λ n. Contains names n) (sym asked.database_named) (contains-first rc.database made))
    (subst (λ n. IsGivenUnlessRefused n c.read_named-index.result (Err c.in-Err.stopped)) c.as_str.ensures
    c.in-Err.ensures.given) c.read_named-index.ensures.refused))
