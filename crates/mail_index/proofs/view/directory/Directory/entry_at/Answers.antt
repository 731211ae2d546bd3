-- `Directory::entry_at` returns the entry of the number, because each entry before it has 24 bytes.
use Rattle.std.proofs.Common.{sym, arith}
use Rattle.mail_index.proofs.ViewLaws.DirectoryKeys.{number-below, rest-at}
use Rattle.mail_index.proofs.view.directory.Directory.entry_at.Goals as goal

pub split_at-requires : goal.split_at-requires
split_at-requires c = grind (arith, number-below)

pub invariant_of-result : goal.invariant_of-result
invariant_of-result c = (rest-at _ _ _ _ _ _ _ c.self.invariant c.self.view_is c.requires c.split_at.ensures.back).front

pub returns : goal.returns
returns c = sym (rest-at _ _ _ _ _ _ _ c.self.invariant c.self.view_is c.requires c.split_at.ensures.back).key
