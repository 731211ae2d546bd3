-- `Entry::text` returns the text of the entry, because the entry has its place and its length.
use Rattle.mail_index.proofs.Words.{rules, ◌≡◌, ◌∙◌, ap, Key, text_at, read_entry}
use Rattle.mail_index.proofs.view.directory.entry.Entry.text.Goals as goal

pub returns : goal.returns
unfolding read_entry
returns c =
    let read : c.split_at-2.result.0.now ≡ text_at c.self.inside.texts.now c.self.inside.entries.now = search rules in
    read ∙ ap (λ (k : Key). k.text) c.self.view_is
