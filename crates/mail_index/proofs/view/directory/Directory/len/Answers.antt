-- `Directory::len` returns the number of keys, which are sorted, because each entry comes after the one before it.
use Rattle.std.proofs.Common.{arith}
use Rattle.mail_index.proofs.Words.{◌∙◌, length, sym, ap}
use Rattle.mail_index.proofs.ViewLaws.DirectoryKeys.{length-keys_read, directory-sorted}
use Rattle.mail_index.proofs.view.directory.Directory.len.Goals as goal

pub returns-clause-count : goal.returns-clause-count
returns-clause-count c = sym (length-keys_read _ _ _ _) ∙ ap length c.self.view_is

pub returns-clause-sorted : goal.returns-clause-sorted
returns-clause-sorted c = grind (arith, directory-sorted)
