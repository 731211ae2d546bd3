-- `file_of_archives` returns the file of a well-formed table, because a job without a fault has one and writes its
-- file. The job leaves digests out.
use Rattle.index_run.proofs.Words.{◌≡◌, arith, map, string_bytes, mboxes}
use Rattle.index_job.specs.ArchiveTables.{table_by}
use Rattle.mail_index.specs.declared.digests.Digests.TheVariants.{LeftOut}
use Rattle.std.specs.Prelude.{Ok}
use Rattle.index_run.proofs.JobFiles.{file-by, file-of-same, table-is}
use Rattle.index_run.proofs.memory_file.file_of_archives.Goals as goal

pub returns-clause-formed : goal.returns-clause-formed
returns-clause-formed g c =
    let job = c.in_ok-job.job in
    let is : c.finish.result ≡ Ok c.in_ok-or.field-0 = grind arith in
    let file = file-by job LeftOut c.in_ok-job.ensures.kept.0 job.draft.table in (
      job.draft.table,
      (c.finish.ensures.formed.0, (rw (c.new-file.ensures, is, file) at c.finish.ensures.ok).1),
    )

pub returns-clause-known : goal.returns-clause-known
unfolding returns-clause-formed
returns-clause-known g c = λ archives known.
    let all = mboxes (map string_bytes c.args.paths.now) archives in
    let job = c.in_ok-job.job in
    let found = c.in_ok-job.ensures.known archives known in
    let is : job.draft.table ≡ table_by LeftOut all = table-is job LeftOut c.in_ok-job.ensures.kept.0 all found.1 in
    (found.0, file-of-same LeftOut is (returns-clause-formed g c).1)
