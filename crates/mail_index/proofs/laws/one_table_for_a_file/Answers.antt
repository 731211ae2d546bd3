-- Equal files are those of equal tables, section by section.
use Rattle.mail_index.proofs.FileLaws.OneTable.{one_file}
use Rattle.mail_index.proofs.laws.one_table_for_a_file.Goals as goal

pub returns : goal.returns
returns c t u p q a b e = one_file t u p q a b e
