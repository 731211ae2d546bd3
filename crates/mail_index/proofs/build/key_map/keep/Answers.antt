-- `keep` keeps one more entry: in the first vacant slot of its window, or in the order.
use Rattle.mail_index.proofs.Words.{◌≡◌, ◌∙◌, ap, ap₂, Key, no_key}
use Rattle.mail_index.specs.Inside.KeyTables.{hash_of}
use Rattle.mail_index.proofs.Items.{other-default}
use Rattle.mail_index.proofs.BuildLaws.TableLemmas.{kept-order-if}
use Rattle.mail_index.proofs.build.key_map.keep.Goals as goal

pub returns-in-None-clause-kept : goal.returns-in-None-clause-kept
returns-in-None-clause-kept c =
    let here = c.index-entries-number.is ∙ other-default _ _ c.index-entries-number.result no_key c.requires.within in
    let hash = c.of-hash.ensures ∙ ap₂ hash_of (c.kind.ensures ∙ ap (λ (k : Key). k.kind) here)
    (c.text.ensures.text ∙ ap (λ (k : Key). k.text) here) in
    let full = c.in-None.ensures in
    kept-order-if _ _ _ c.args.order.now c.put_in_order.new.order _ c.put_in_order.ensures.part
    c.put_in_order.ensures.has (rw (← hash) full)
