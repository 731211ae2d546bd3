-- The answer is written, by an index or by the archives alone; or there are too many archives, and nothing is.
use Rattle.std.proofs.Common.{◌≡◌, ◌≤◌, ◌<◌, ◌+◌, ◌^◌, ⊎_elim, sym, subst, Some, length}
use Rattle.std.specs.Option.{option_map}
use Rattle.named_archives.specs.Progress.{CannotRead}
use Rattle.run_faults.specs.Faults.{fault_in, is_failed_out}
use Rattle.mairix_run.proofs.IndexedFiles.{same-length}
use Rattle.mairix_run.proofs.Written.{counted-once, few-or-many, searched-written, too-many-searched}
use Rattle.mairix_run.specs.Tasks.{search_work}
use Rattle.mairix_run.specs.WholeRuns.{IsWritten}
use Rattle.mairix_tool.specs.Asked.{asks}
use Rattle.mairix_run.proofs.search.SearchContent.write.Goals as goal

pub returns-clause-written : goal.returns-clause-written
returns-clause-written g c = λ bytes files agree.
    let F = g.F.Folder in
    let O = g.O.Out in
    let search = c.args.self.now in
    let wanted = asks search.words.now search.text.now search.moment in
    let work = search_work wanted (option_map (λ i. i.now) search.index) bytes in
    let old = c.args.out.now in
    let new = c.answer_names.new.out in
    let result = c.answer_names.result in
    let says = c.answer_names.ensures in
    let paths = search.names.now in
    let Fails = O.failures new ≡ O.failures old + 1 in
    let ReadFails = CannotRead F.can_refuse F.reads_can_fail in
    ⊎_elim
    (λ few. searched-written wanted search.index bytes Fails ReadFails (O.taken old) (O.taken new) result
    (counted-once (is_failed_out (fault_in result)) (O.failures old) (O.failures new) says.causes.out_failed)
    (says.causes.unread bytes files) (says.answers few bytes files agree))
    (λ many. let none = says.refused.too_many many in
    subst (λ d. IsWritten Fails ReadFails work (O.taken old) (O.taken d) result) (sym none.1)
    (too-many-searched wanted search.index bytes Fails ReadFails (O.taken old) result
    (subst (λ n. 2 ^ 32 ≤ n) (same-length _ Some paths bytes files) many) none.0))
    (few-or-many (length paths) (2 ^ 32))
