-- The rcfile can't be read, or is refused.
use Rattle.std.proofs.Common.{◌≡◌, ◌∙◌, sym, ap, subst, List, [], ℕ, map, Ok, Err, IfOk, true, rules, string_bytes}
use Rattle.std.specs.List.{Contains}
use Rattle.std.specs.Option.{option_map_or}
use Rattle.contract_words.specs.Answers.{◌>>=◌, fault_as}
use Rattle.mairix_options.specs.Rcfile.{rc_of}
use Rattle.named_files.proofs.FoundStates.{adds-none}
use Rattle.named_files.specs.Entries.{File, IsFileOf, bytes_of}
use Rattle.named_files.specs.FoundStates.{AreReadInFirstStates}
use Rattle.mairix_run.proofs.FirstStates.{first-earlier, ok-then}
use Rattle.mairix_run.proofs.AskedNames.{asks_one, asks_then, asks_wider, given-planned, rcfile-planned}
use Rattle.mairix_run.proofs.NamesUsed.{asked-planned, contains-first}
use Rattle.mairix_run.proofs.RunParts.{ran-ended, ran-wider}
use Rattle.mairix_run.proofs.RunStages.{Ends, ends-trouble, given-ok, plan-read, read-fails, refusal-ends}
use Rattle.mairix_run.specs.AskedNames.{AsksFor}
use Rattle.mairix_run.specs.NamesUsed.{names_asked, names_given, names_of_plan, names_of_rc, names_planned}
use Rattle.mairix_run.specs.Inside.RunParts.{Ran}
use Rattle.mairix_run.specs.Stops.{Ending, IsGivenUnlessRefused, ending_of_result, ending_of_stopped}
use Rattle.mairix_run.specs.Stops.Ending.{CannotOpen}
use Rattle.mairix_run.specs.Tasks.{because_rc, task_of_plan, task_of_rc}
use Rattle.mairix_tool.specs.Asked.{wanted_of_words}
use Rattle.run_faults.specs.declared.fault.Fault.TheVariants.{Rc}
use Rattle.mairix_run.proofs.program.run_plan.Given.{Over}
use Rattle.mairix_run.proofs.program.run_plan.Goals.{After-as_slice, After-name, After-names_of_files}
use Rattle.mairix_run.proofs.program.run_plan.Goals as goal

-- ---- the names that are made

-- the rcfile's
rcfile-made : (g : Over) (c : After-name g)
    → AsksFor (names_of_plan (g.F.Folder.holds c.args.files.now.folder) c.args.plan.now)
    (g.F.Folder.agree c.args.files.now.reports) (g.F.Folder.made c.args.names.now) (g.F.Folder.made c.name.new.names)
rcfile-made g c =
    let holds = g.F.Folder.holds c.args.files.now.folder in
    let p = c.args.plan.now in
    let names = names_of_plan holds p in
    asks_one names (g.F.Folder.agree c.args.files.now.reports) (g.F.Folder.made c.args.names.now)
    (g.F.Folder.made c.name.new.names) c.as_str-path.result.now
    (subst (λ n. Contains names n) (sym c.as_str-path.ensures) (rcfile-planned p holds)) c.name.ensures.noted

-- the rcfile's name leads to the text that was read, if the reports agree
here : (g : Over) (c : After-as_slice g) → g.F.Folder.agree c.read_named-text.new.reports ≡ true
    → g.F.Folder.holds c.args.files.now.folder c.args.plan.now.rcfile ≡ File c.in-Ok.text.items
here g c agree =
    let holds = g.F.Folder.holds c.args.files.now.folder in
    let whole : IsFileOf (λ all. c.in-Ok.text.items ≡ all) (holds (g.F.Name.FileName.text c.in_ok-rcfile.rcfile)) =
    subst (λ r. IfOk r (λ b. g.F.Folder.agree c.read_named-text.new.reports ≡ true
    → IsFileOf (λ all. b.items ≡ all) (holds (g.F.Name.FileName.text c.in_ok-rcfile.rcfile))))
    (given-ok c.as_str.result.now c.read_named-text.result c.in-Ok.text c.in-Ok.ensures.given)
    c.read_named-text.ensures.bytes agree in
    subst (λ n. holds n ≡ File c.in-Ok.text.items) (c.in_ok-rcfile.ensures.text ∙ c.as_str-path.ensures)
    (whole.2 ∙ ap File (sym whole.1))

-- and those that its text gives
all-made : (g : Over) (c : After-names_of_files g) → (g.F.Folder.agree c.read_named-text.new.reports ≡ true
    → g.F.Folder.holds c.args.files.now.folder c.args.plan.now.rcfile ≡ File c.in-Ok.text.items)
    → AsksFor (names_of_plan (g.F.Folder.holds c.args.files.now.folder) c.args.plan.now)
    (g.F.Folder.agree c.args.files.now.reports) (g.F.Folder.made c.args.names.now) (g.F.Folder.made c.name.new.names)
    → AsksFor (names_of_plan (g.F.Folder.holds c.args.files.now.folder) c.args.plan.now)
    (g.F.Folder.agree c.args.files.now.reports)
    (g.F.Folder.made c.args.names.now) (g.F.Folder.made c.names_of_files.new.names)
all-made g c found first =
    let F = g.F.Folder in
    let holds = F.holds c.args.files.now.folder in
    let p = c.args.plan.now in
    let rc = c.in-Ok-read_rc.rc in
    let names = names_of_plan holds p in
    let agree = F.agree c.args.files.now.reports in
    let later = F.agree c.read_named-text.new.reports in
    let old = F.made c.args.names.now in
    let mid = F.made c.name.new.names in
    let new = F.made c.names_of_files.new.names in
    let said : rc_of c.in-Ok.text.items ≡ Ok rc = subst (λ t. rc_of t ≡ Ok rc) c.as_slice.ensures.value
    c.in-Ok-read_rc.ensures.given in
    asks_then names agree old mid new first
    (asks_wider (names_given p rc) names agree later mid new c.read_named-text.ensures.reports.earlier
    (λ agrees. given-planned p rc holds c.in-Ok.text.items (ap bytes_of (found agrees)) said)
    c.names_of_files.ensures.asked)

pub returns-in_err-rcfile-clause-asked : goal.returns-in_err-rcfile-clause-asked
returns-in_err-rcfile-clause-asked g c = rcfile-made g (goal.at.returns-in_err-rcfile-clause-asked g c).After-name

pub returns-in-Err-clause-asked : goal.returns-in-Err-clause-asked
returns-in-Err-clause-asked g c = rcfile-made g (goal.at.returns-in-Err-clause-asked g c).After-name

pub returns-in-Err-read_rc-clause-asked : goal.returns-in-Err-read_rc-clause-asked
returns-in-Err-read_rc-clause-asked g c = rcfile-made g (goal.at.returns-in-Err-read_rc-clause-asked g c).After-name

pub returns-in_err-made-clause-asked : goal.returns-in_err-made-clause-asked
returns-in_err-made-clause-asked g c =
    let at = goal.at.returns-in_err-made-clause-asked g c
    in all-made g at.After-names_of_files (here g at.After-as_slice)
    (rcfile-made g at.After-name)

pub returns-clause-asked : goal.returns-clause-asked
returns-clause-asked g c =
    let at = goal.at.returns-clause-asked g c in all-made g at.After-names_of_files (here g at.After-as_slice)
    (rcfile-made g at.After-name)

-- ---- what it does

-- without memory for a name
pub returns-in_err-rcfile-clause-ran : goal.returns-in_err-rcfile-clause-ran
returns-in_err-rcfile-clause-ran g c = λ agree.
    let F = g.F.Folder in
    let old = c.args.files.now.folder in
    let names = names_planned (F.holds old) c.args.plan.now in
    let task = task_of_plan (F.holds old) (map string_bytes c.args.command.now.words.now) c.args.command.now.moment
    c.args.plan.now in
    let ended = ending_of_result c.from_residual.result in
    ran-ended F g.O.Out g.O.Stream.handed_on (F.agree c.args.files.now.reads ≡ true) names task old c.args.out.now ended
    (g.met.F.Folder.only_now old)
    (ends-trouble names F.can_refuse F.reads_can_fail task ended (search rules))

pub returns-in_err-made-clause-ran : goal.returns-in_err-made-clause-ran
returns-in_err-made-clause-ran g c = λ agree.
    let F = g.F.Folder in
    let old = c.args.files.now.folder in
    let names = names_planned (F.holds old) c.args.plan.now in
    let task = task_of_plan (F.holds old) (map string_bytes c.args.command.now.words.now) c.args.command.now.moment
    c.args.plan.now in
    let ended = ending_of_result c.from_residual-in_err-made.result in
    ran-ended F g.O.Out g.O.Stream.handed_on (F.agree c.args.files.now.reads ≡ true) names task old c.args.out.now ended
    (g.met.F.Folder.only_now old)
    (ends-trouble names F.can_refuse F.reads_can_fail task ended (search rules))

pub returns-in-Err-clause-ran : goal.returns-in-Err-clause-ran
returns-in-Err-clause-ran g c = λ agree.
    let F = g.F.Folder in
    let old = c.args.files.now.folder in
    let words = map string_bytes c.args.command.now.words.now in
    let p = c.args.plan.now in
    let path = g.F.Name.FileName.text c.in_ok-rcfile.rcfile in
    let named : path ≡ p.rcfile = c.in_ok-rcfile.ensures.text ∙ c.as_str-path.ensures in
    let ended = ending_of_stopped c.in-Err.stopped in
    let names = names_planned (F.holds old) p in
    let next = λ (text : List ℕ). fault_as because_rc (rc_of text)
    >>= task_of_rc (F.holds old) (wanted_of_words words text c.args.command.now.moment) p in
    let among : Contains names p.rcfile = contains-first p.rcfile
    (option_map_or (λ text. names_of_rc p (rc_of text)) (bytes_of (F.holds old p.rcfile)) []) in
    ran-ended F g.O.Out g.O.Stream.handed_on (F.agree c.args.files.now.reads ≡ true) names (task_of_plan
    (F.holds old) words c.args.command.now.moment p) old c.args.out.now
    ended
    (g.met.F.Folder.only_now old)
    (subst (λ n. Ends names F.can_refuse F.reads_can_fail
    (option_map_or Ok (bytes_of (F.holds old n)) (Err (CannotOpen n)) >>= next) ended) named
    (read-fails names F.can_refuse F.reads_can_fail c.read_named-text.result (bytes_of (F.holds old path)) path next
    c.in-Err.stopped (subst (λ n. Contains names n) (sym named) among)
    (subst (λ n. IsGivenUnlessRefused n c.read_named-text.result (Err c.in-Err.stopped)) c.as_str.ensures
    c.in-Err.ensures.given) c.read_named-text.ensures.refused))

pub returns-in-Err-read_rc-clause-ran : goal.returns-in-Err-read_rc-clause-ran
returns-in-Err-read_rc-clause-ran g c = λ agree.
    let F = g.F.Folder in
    let old = c.args.files.now.folder in
    let holds = F.holds old in
    let words = map string_bytes c.args.command.now.words.now in
    let moment = c.args.command.now.moment in
    let p = c.args.plan.now in
    let text = c.as_slice.result.now in
    let ended = ending_of_stopped c.into.result in
    let names = names_planned holds p in
    ran-ended F g.O.Out g.O.Stream.handed_on (F.agree c.args.files.now.reads ≡ true) names
    (task_of_plan holds words moment p) old c.args.out.now ended (g.met.F.Folder.only_now old)
    (subst (λ t. Ends names F.can_refuse F.reads_can_fail t ended) (sym (plan-read holds words moment p text
    (here g (goal.at.returns-in-Err-read_rc-clause-ran g c).After-as_slice agree
    ∙ ap File (sym c.as_slice.ensures.value))))
    (refusal-ends names F.can_refuse F.reads_can_fail Rc (rc_of text)
    (task_of_rc holds (wanted_of_words words text moment) p) c.in-Err-read_rc.given c.into.result
    c.in-Err-read_rc.ensures.given c.into.ensures))

-- they are those of a search or of an index run, by its rcfile
pub returns-clause-ran : goal.returns-clause-ran
returns-clause-ran g c = λ agree.
    let F = g.F.Folder in
    let holds = F.holds c.args.files.now.folder in
    let words = map string_bytes c.args.command.now.words.now in
    let moment = c.args.command.now.moment in
    let p = c.args.plan.now in
    let rc = c.in-Ok-read_rc.rc in
    let bytes = c.in-Ok.text.items in
    let names = names_planned holds p in
    let found : holds p.rcfile ≡ File bytes = here g (goal.at.returns-clause-ran g c).After-as_slice
    (c.run_asked.ensures.reports.earlier agree) in
    let said : rc_of bytes ≡ Ok rc = subst (λ t. rc_of t ≡ Ok rc) c.as_slice.ensures.value
    c.in-Ok-read_rc.ensures.given in
    let task = task_of_rc holds (wanted_of_words words bytes moment) p in
    ran-wider F g.O.Out g.O.Stream.handed_on (F.agree c.run_asked.new.files.reads ≡ true) (names_asked p rc) names
    (asked-planned p rc holds bytes (ap bytes_of found) said) (task rc) _
    (plan-read holds words moment p bytes found ∙ ap (λ r. fault_as because_rc r >>= task) said)
    c.args.files.now.folder c.run_asked.new.files.folder c.args.out.now c.run_asked.new.out
    (ending_of_result c.run_asked.result)
    (subst (λ t. Ran F g.O.Out g.O.Stream.handed_on (F.agree c.run_asked.new.files.reads ≡ true) (names_asked p rc)
    (task_of_rc holds (wanted_of_words words t moment) p rc) c.args.files.now.folder c.run_asked.new.files.folder
    c.args.out.now c.run_asked.new.out (ending_of_result c.run_asked.result))
    c.as_slice-2.ensures.value (c.run_asked.ensures.ran agree))

-- the states that were found first, after the rcfile was read, are so since the run began
pub returns-clause-in_state : goal.returns-clause-in_state
returns-clause-in_state g c = λ searches.
    let F = g.F.Folder in
    let old = F.found c.args.files.now.reports in
    let mid = F.found c.read_named-text.new.reports in
    let new = F.found c.run_asked.new.files.reports in
    let reads = F.found c.args.files.now.reads in
    let reads' = F.found c.run_asked.new.files.reads in
    ok-then (AreReadInFirstStates mid new reads reads') (AreReadInFirstStates old new reads reads') c.run_asked.result
    (c.run_asked.ensures.in_state searches)
    (first-earlier old mid new reads reads' (c.read_named-text.ensures.reports.found old (adds-none old)))
