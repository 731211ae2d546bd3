-- The file of a table has no fault, because it keeps all rules.
use Rattle.mail_index.proofs.FileLaws.Accepts.{no_fault}
use Rattle.mail_index.proofs.laws.the_file_of_a_table_has_no_fault.Goals as goal

pub returns : goal.returns
returns c bytes t fault few w h = no_fault _ t few w _ h
