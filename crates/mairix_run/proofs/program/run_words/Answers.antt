-- The words are refused.
use Rattle.std.proofs.Common.{◌≡◌, true, map, string_bytes, subst, sym}
use Rattle.mairix_options.specs.CommandLine.{plan}
use Rattle.mairix_options.specs.declared.command_line.UsageFault.{UsageFault}
use Rattle.mairix_run.proofs.FirstStates.{none-answered, ok-answered}
use Rattle.mairix_run.specs.FirstStates.{OnAnswer}
use Rattle.named_files.specs.FoundStates.{AreReadInFirstStates}
use Rattle.mairix_run.proofs.RunParts.{ran-ended}
use Rattle.mairix_run.proofs.RunStages.{refusal-ends}
use Rattle.mairix_run.specs.NamesUsed.{names_used}
use Rattle.mairix_run.specs.Stops.{ending_of_result, ending_of_stopped}
use Rattle.mairix_run.specs.Tasks.{task_of, task_of_plan}
use Rattle.run_faults.specs.declared.fault.Fault.TheVariants.{Usage}
use Rattle.mairix_run.proofs.program.run_words.Goals as goal

pub returns-in-Err-clause-ran : goal.returns-in-Err-clause-ran
returns-in-Err-clause-ran g c = λ agree.
    let F = g.F.Folder in
    let old = c.args.files.now.folder in
    let words = map string_bytes c.args.command.now.words.now in
    let names = names_used (F.holds old) (plan words) in
    ran-ended F g.O.Out g.O.Stream.handed_on (F.agree c.args.files.now.reads ≡ true) names (task_of
    (F.holds old) words c.args.command.now.moment) old c.args.out.now
    (ending_of_stopped c.into.result) (g.met.F.Folder.only_now old)
    (refusal-ends names F.can_refuse F.reads_can_fail Usage (plan words)
    (task_of_plan (F.holds old) words c.args.command.now.moment)
    c.in-Err.given c.into.result c.in-Err.ensures c.into.ensures)

pub returns-in-Err-clause-in_state : goal.returns-in-Err-clause-in_state
returns-in-Err-clause-in_state g c =
    let F = g.F.Folder in
    let reports = F.found c.args.files.now.reports in
    let reads = F.found c.args.files.now.reads in
    none-answered (AreReadInFirstStates reports reports reads reads)
    (plan (map string_bytes c.args.command.now.words.now))
    c.into.result

pub returns-clause-in_state : goal.returns-clause-in_state
returns-clause-in_state g c =
    let F = g.F.Folder in
    let files = c.args.files.now in
    let files' = c.run_plan.new.files in
    let InState = AreReadInFirstStates (F.found files.reports) (F.found files'.reports) (F.found files.reads)
    (F.found files'.reads) in
    subst (λ p. OnAnswer p (ending_of_result c.run_plan.result) InState) (sym c.in-Ok.ensures)
    (ok-answered InState UsageFault c.in-Ok.plan c.run_plan.result c.run_plan.ensures.in_state)
