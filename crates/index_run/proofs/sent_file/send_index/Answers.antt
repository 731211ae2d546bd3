-- `send_index` sends the file of the table of its archives, because its job computes digests.
use Rattle.index_run.proofs.Words.{◌≡◌, ◌∙◌, ap, arith, map, subst, string_bytes, mboxes}
use Rattle.index_job.specs.ArchiveTables.{table}
use Rattle.mail_index.specs.Files.{file_by, index_file}
use Rattle.mail_index.specs.Tables.{IsWellFormed}
use Rattle.mail_index.specs.declared.digests.Digests.TheVariants.{Computed}
use Rattle.index_run.proofs.JobFiles.{file-by, table-is}
use Rattle.index_run.proofs.sent_file.send_index.Goals as goal

pub returns-clause-known : goal.returns-clause-known
returns-clause-known g c = λ archives known.
    let all = mboxes (map string_bytes c.args.paths.now) archives in
    let job = c.in_ok-job.job in
    let kept = c.in_ok-job.ensures.kept in
    let found = c.in_ok-job.ensures.known archives known in
    let is : job.draft.table ≡ table all = table-is job Computed kept.0 all found.1 in
    let formed : IsWellFormed (table all) = subst IsWellFormed is c.finish.ensures.formed.0 in
    let file : file_by job.digests job.draft.table ≡ index_file (table all) =
    file-by job Computed kept.0 job.draft.table ∙ ap index_file is in
    let ok = rw file at c.finish.ensures.ok in
    let err = rw file at (c.finish.ensures.err kept.1) in
    grind (arith, found, formed, ok, err)
