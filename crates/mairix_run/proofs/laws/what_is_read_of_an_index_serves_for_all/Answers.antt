-- The first 80 bytes show the same early fault as the file, and then neither of both is the file of a table.
use Rattle.mairix_run.proofs.IndexReads.{same_fault, same_table}
use Rattle.mairix_run.proofs.laws.what_is_read_of_an_index_serves_for_all.Goals as goal

pub returns-clause-faults : goal.returns-clause-faults
returns-clause-faults c = λ all bytes fault. same_fault all bytes fault

pub returns-clause-tables : goal.returns-clause-tables
returns-clause-tables c = λ all bytes t. same_table all bytes t
