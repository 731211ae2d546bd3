-- `compare_to_run` returns the order of a key and a run, because it compares only the front of the key's text.
use Rattle.mail_index.proofs.Words.{rules, ◌≡◌, ◌∙◌, ℕ, List, length, take, min, sym, ap, ap₂, arith, common_steps, Key, key_at, kind_number, byte_at, key_cmp, read_entry}
use Rattle.mail_index.proofs.view.directory.key_run.compare_to_run.Goals as goal

front-is : (own text front : List ℕ) (n : ℕ) → n ≡ min (length own) (length text) → front ≡ take n own → front
    ≡ take (length text) own
front-is own text front n e e2 = grind (arith, common_steps)

pub returns : goal.returns
unfolding read_entry
returns c =
    let text = c.args.text.now in
    let key = key_at c.args.directory.now c.args.number in
    let is = c.entry_at-entry.ensures in
    let kind = sym c.entry.invariant.kind ∙ ap (λ (k : Key). kind_number k.kind) (c.entry.view_is ∙ is) in
    let read : c.compare_keys.result ≡ key_cmp (byte_at c.entry.inside.entries.now 0) c.split_at.result.0.now
    (kind_number c.args.kind) text = search rules in
    let front = front-is _ _ _ _ c.min.ensures c.split_at.ensures.front in
    read ∙ ap (λ (own : List ℕ). key_cmp (byte_at c.entry.inside.entries.now 0) own (kind_number c.args.kind) text)
    front ∙ ap₂ (λ (k : ℕ) (own : List ℕ). key_cmp k (take (length text) own) (kind_number c.args.kind) text) kind
    (c.text-own.ensures ∙ ap (λ (k : Key). k.text) is)
