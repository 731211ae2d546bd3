-- `IndexJob::archive` adds an archive to its table, because its builder does.
use Rattle.index_job.proofs.Words.{subst, sym}
use Rattle.index_job.specs.IndexJobs.{IsIndexOf, Job}
use Rattle.index_job.proofs.index_job.IndexJob.archive.Goals as goal

pub returns-in-Ok-clause-ok : goal.returns-in-Ok-clause-ok
returns-in-Ok-clause-ok g c = rw c.in-Ok.is (λ before bytes is rest.
    c.in-Ok.ensures.ok before bytes (subst (λ (job : Job). IsIndexOf job before) (sym c.self.view_is) is) rest)
