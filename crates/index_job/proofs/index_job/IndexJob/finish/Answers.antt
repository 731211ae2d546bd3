-- `IndexJob::finish` writes the index file of its table, because its builder does.
use Rattle.index_job.proofs.Words.{arith}
use Rattle.index_job.proofs.index_job.IndexJob.finish.Goals as goal

pub returns-clause-ok : goal.returns-clause-ok
returns-clause-ok g c = grind arith
