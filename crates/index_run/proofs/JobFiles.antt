-- The file of a job: that of the table of its archives, with digests if the job computes them.
use Rattle.index_run.proofs.Words.{◌≡◌, ◌∙◌, ℕ, List, ap, subst, Mbox, IsIndexOf, Job}
use Rattle.index_job.specs.ArchiveTables.{table_by}
use Rattle.mail_index.specs.Builders.{Draft}
use Rattle.mail_index.specs.Faults.{IsFileBy}
use Rattle.mail_index.specs.Files.{file_by}
use Rattle.mail_index.specs.Tables.{Table}
use Rattle.mail_index.specs.declared.digests.Digests.{Digests}

module _ (job : Job) (digests : Digests) (same : job.digests ≡ digests) where
  pub table-is : (archives : List Mbox) → IsIndexOf job archives → job.draft.table ≡ table_by digests archives
  table-is archives is = ap (λ (d : Draft). d.table) is ∙ ap (λ (by : Digests). table_by by archives) same

  pub file-by : (t : Table) → file_by job.digests t ≡ file_by digests t
  file-by t = ap (λ (by : Digests). file_by by t) same

-- a file of a table is one of each table that equals it
pub file-of-same : {file : List ℕ} {t u : Table} (digests : Digests) → t ≡ u → IsFileBy file digests t
    → IsFileBy file digests u
file-of-same {file} digests same is = subst (λ (t : Table). IsFileBy file digests t) same is
