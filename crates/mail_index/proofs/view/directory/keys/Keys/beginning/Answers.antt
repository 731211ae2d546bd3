-- `Keys::beginning` returns the keys of the run, because the two searches find where it begins and where it ends.
use Rattle.mail_index.proofs.Words.{map, ap, sym}
use Rattle.mail_index.proofs.ViewLaws.RunLemmas.{keys_beginning-between}
use Rattle.mail_index.proofs.view.directory.keys.Keys.beginning.Goals as goal

pub returns : goal.returns
returns c =
    let next = c.first_that_lies-next.ensures in
    let end = c.first_that_lies-end.ensures in
    ap (map _) (sym (keys_beginning-between _ _ _ _ _ _ next.within next.below next.above end.below end.above))
