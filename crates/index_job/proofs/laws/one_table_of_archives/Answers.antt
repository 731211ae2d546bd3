-- The table has the numbers of the messages at their terms, and no other table has them: `table-is` and `one-table`.
use Rattle.index_job.proofs.OneTable.{table-is, one-table}
use Rattle.index_job.proofs.laws.one_table_of_archives.Goals as goal

pub returns-clause-is : goal.returns-clause-is
returns-clause-is c = table-is

pub returns-clause-only : goal.returns-clause-only
returns-clause-only c = one-table
