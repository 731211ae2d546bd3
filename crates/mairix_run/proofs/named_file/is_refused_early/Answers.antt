-- The file of a table isn't refused.
use Rattle.mairix_run.proofs.IndexReads.{table_not_refused}
use Rattle.mairix_run.proofs.named_file.is_refused_early.Goals as goal

pub returns-in-Ok-clause-not_shown : goal.returns-in-Ok-clause-not_shown
returns-in-Ok-clause-not_shown c = λ no. table_not_refused c.args.front.now c.in-Ok.field-0 c.in-Ok.ensures.ok
