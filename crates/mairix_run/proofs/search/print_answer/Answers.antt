-- The answer is written to standard output, and then that is flushed.
use Rattle.named_archives.specs.Progress.{CannotRead}
use Rattle.std.specs.Option.{option_map}
use Rattle.named_archives.specs.States.{IsInOneOf}
use Rattle.named_files.specs.FoundStates.{AreFoundOnly}
use Rattle.mairix_run.proofs.FirstStates.{ok-ended, ok-flushed}
use Rattle.mairix_run.proofs.Written.{flushed-writes}
use Rattle.mairix_run.specs.Tasks.{search_work}
use Rattle.mairix_tool.specs.Asked.{asks}
use Rattle.mairix_run.proofs.search.print_answer.Goals as goal

pub returns-clause-run : goal.returns-clause-run
returns-clause-run g c = λ bytes files agree.
    let F = g.F.Folder in
    let search = c.args.search.now in
    let work = search_work (asks search.words.now search.text.now search.moment)
    (option_map (λ i. i.now) search.index) bytes in
    let flushed = flushed-writes g.O.Out g.O.Stream.handed_on (CannotRead F.can_refuse F.reads_can_fail) work
    c.args.out.now c.write-written.new.out c.flushed.new.out c.write-written.result c.flushed.result
    (c.write-written.ensures.written bytes files agree) c.write-written.ensures.out_failed c.flushed.ensures.status in
    (c.flushed.result, c.status_or_stopped.ensures, flushed.0, flushed.1)

pub returns-clause-in_state : goal.returns-clause-in_state
returns-clause-in_state g c =
    let found = g.F.Folder.found in
    let AreFound = AreFoundOnly (IsInOneOf c.args.search.now.states.now) (found c.args.reports.now)
    (found c.write-written.new.reports) in
    ok-ended AreFound c.flushed.result c.status_or_stopped.result c.status_or_stopped.ensures
    (ok-flushed AreFound g.O.Out g.O.Stream.handed_on c.write-written.result c.write-written.new.out c.flushed.new.out
    c.flushed.result c.flushed.ensures.status c.write-written.ensures.in_state)
