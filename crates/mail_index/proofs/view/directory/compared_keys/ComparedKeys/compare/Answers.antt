-- `ComparedKeys::compare` returns the order of the keys, because the entry's bytes give its kind and its text.
use Rattle.mail_index.proofs.Words.{rules, ◌≡◌, ◌∙◌, ℕ, List, sym, ap, ap₂, Key, key_at, kind_number, byte_at, key_cmp, read_entry}
use Rattle.mail_index.proofs.view.directory.compared_keys.ComparedKeys.compare.Goals as goal

pub returns-clause-order : goal.returns-clause-order
unfolding read_entry
returns-clause-order c =
    let key = key_at c.args.self.now.directory c.args.number in
    let is = c.entry_at-entry.ensures in
    let kind = sym c.entry.invariant.kind ∙ ap (λ (k : Key). kind_number k.kind) (c.entry.view_is ∙ is) in
    let read : c.compare_keys.result ≡ key_cmp (byte_at c.entry.inside.entries.now 0) c.text.result.now
    (kind_number c.args.kind) c.args.text.now = search rules in
    read ∙ ap₂ (λ (k : ℕ) (own : List ℕ). key_cmp k own (kind_number c.args.kind) c.args.text.now) kind
    (c.text.ensures ∙ ap (λ (k : Key). k.text) is)
