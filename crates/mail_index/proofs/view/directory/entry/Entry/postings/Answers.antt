-- `Entry::postings` returns the numbers of the entry, because they are between its place and that of the next.
use Rattle.mail_index.proofs.Words.{rules, ◌≡◌, ◌∙◌, ◌^◌, sym, ap, Key, read_entry, list_at}
use Rattle.mail_index.proofs.ViewLaws.PostingReadLemmas.{read-posted}
use Rattle.mail_index.proofs.view.directory.entry.Entry.postings.Goals as goal

pub returns : goal.returns
unfolding read_entry
returns c =
    let mine = list_at c.self.inside.postings.now c.self.inside.entries.now in
    let posted = c.self.invariant.posted in
    let read : c.split_at-3.result.0.now ≡ list_at c.self.inside.postings.now c.self.inside.entries.now = search rules
    in
    let given = rw (← read) at posted.1 in
    c.of.ensures posted.0 given ∙ sym (read-posted 0 _ _ posted.1) ∙ ap (λ (k : Key). k.numbers) c.self.view_is
