-- `read_archive` adds the messages of all bytes of a source, because from a new cutter all of its events come.
use Rattle.index_job.proofs.Words.{arith}
use Rattle.index_job.proofs.TableSteps.{comes-known}
use Rattle.index_job.proofs.archive_reading.read_archive.Goals as goal

pub returns-clause-known : goal.returns-clause-known
returns-clause-known g c = grind (arith, comes-known)
