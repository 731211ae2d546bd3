-- `archives_of` returns the names that aren't empty, because at its end the loop was given all pieces between the
-- colons.
use Rattle.mairix_options.proofs.Words.{◌∙◌, ap, filter, length, nat_lt, lit<, split_text, split_has_more, split_pattern}
use Rattle.std.proofs.lemmas.Iterator.Consumers.{YieldsList-end}
use Rattle.std.proofs.lemmas.Iterator.Splits.{YieldsList-from_str_split}
use Rattle.mairix_options.proofs.setting.archives_of.Goals as goal

pub returns : goal.returns
returns c =
    let same = c.into_iter-name-iterator.ensures.into_iter_gives in
    let pieces = YieldsList-from_str_split {s = c.into_iter-name-iterator.result} 58 c.args.value.now (lit< tt)
    (ap split_text same ∙ c.split-name-items.ensures.text)
    (ap split_has_more same ∙ c.split-name-items.ensures.has_more)
    (ap split_pattern same ∙ c.split-name-items.ensures.pattern) in
    let all = YieldsList-end pieces c.loop-name.yielded _ c.loop-name.yielded_by _ _ c.in-None.is c.next.ensures.steps
    in
    c.loop-name.invariant ∙ ap (filter (λ text. nat_lt 0 (length text))) all.0
