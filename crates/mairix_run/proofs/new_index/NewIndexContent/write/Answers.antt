-- What an index run sends is written, because its clauses say so for each result.
use Rattle.std.proofs.Common.{◌≡◌, ◌+◌, map, string_bytes}
use Rattle.index_run.specs.ArchivesIndexed.{mboxes}
use Rattle.named_archives.specs.Progress.{CannotRead}
use Rattle.run_faults.specs.Faults.{fault_in, is_failed_out}
use Rattle.mairix_run.proofs.Written.{counted-once, indexed-written, silent-of}
use Rattle.mairix_run.proofs.new_index.NewIndexContent.write.Goals as goal

pub returns-clause-written : goal.returns-clause-written
returns-clause-written g c = λ bytes files agree.
    let F = g.F.Folder in
    let O = g.O.Out in
    let old = c.args.out.now in
    let new = c.index_names.new.out in
    let result = c.index_names.result in
    let says = c.index_names.ensures.indexed in
    indexed-written (mboxes (map string_bytes c.args.self.now.paths.now) bytes) (O.failures new ≡ O.failures old + 1)
    (CannotRead F.can_refuse F.reads_can_fail) (O.taken old) (O.taken new) result
    (counted-once (is_failed_out (fault_in result)) (O.failures old) (O.failures new) says.causes.out_failed)
    (says.causes.unread bytes files) (silent-of O.taken old new result says.silent) (says.by_bytes bytes files agree)
