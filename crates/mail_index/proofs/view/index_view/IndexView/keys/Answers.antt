-- `IndexView::keys` returns the keys of a kind, because each text begins with no byte.
use Rattle.mail_index.proofs.Words.{◌∙◌, map, ap, text_and_numbers}
use Rattle.mail_index.proofs.ViewLaws.RunLemmas.{keys_beginning-none}
use Rattle.mail_index.proofs.view.index_view.IndexView.keys.Goals as goal

pub returns : goal.returns
returns c = c.keys_beginning.ensures
    ∙ ap (map text_and_numbers) (keys_beginning-none c.args.kind c.args.self.now.keys)
