-- `Batch::add` adds the terms of all its words, because looking their keys up beforehand adds nothing.
use Rattle.index_job.proofs.Words.{arith}
use Rattle.index_job.proofs.batch.Batch.add.Goals as goal

pub returns-clause-terms : goal.returns-clause-terms
returns-clause-terms c = grind arith

pub returns-in_err-add_prefetched-clause-terms : goal.returns-in_err-add_prefetched-clause-terms
returns-in_err-add_prefetched-clause-terms c = grind arith
