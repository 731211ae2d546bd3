-- `add_ids` adds the message's own id and then its linking ids, so a fault of the first is one of all of them.
use Rattle.index_job.proofs.Words.{arith, err_from_is_err_and}
use Rattle.index_job.proofs.Terms.{add-fails}
use Rattle.index_job.proofs.term_sink.add_ids.Goals as goal

pub returns-in_err-add-clause-terms : goal.returns-in_err-add-clause-terms
returns-in_err-add-clause-terms c = grind (arith, err_from_is_err_and, add-fails)
