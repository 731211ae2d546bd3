-- `put_in_order` puts a number at the gap of its key, or finds that it is there, because no other entry has the key.
use Rattle.mail_index.proofs.Words.{◌≡◌, ◌∙◌, no_key}
use Rattle.mail_index.proofs.Items.{other-default}
use Rattle.mail_index.proofs.BuildLaws.TableLemmas.{step-same, part-same, step-inserted, part-inserted, has-inserted}
use Rattle.mail_index.proofs.build.key_map.put_in_order.Goals as goal

pub returns-in-Ok-clause-has : goal.returns-in-Ok-clause-has
returns-in-Ok-clause-has c =
    let here = c.index-entries-number.is ∙ other-default _ _ c.index-entries-number.result no_key c.requires.within in
    let found = c.in-Ok.field-0 in
    let equal = rw (c.kind.ensures, c.text.ensures.text) at c.in-Ok.ensures.found.1 in
    let same = c.requires.distinct c.args.number found c.requires.within c.in-Ok.ensures.found.0 (rw (← here) equal) in
    rw same c.in-Ok.ensures.among

pub returns-in-Err-clause-step : goal.returns-in-Err-clause-step
returns-in-Err-clause-step c =
    let begun = step-same _ _ _ c.requires.step c.begin.ensures.between c.in_ok-begin.ensures.same in
    let here = c.index-entries-number.is ∙ other-default _ _ c.index-entries-number.result no_key c.requires.within in
    let place = rw (c.kind.ensures, c.text.ensures.text, here) at c.in-Err.ensures.place in
    step-inserted _ _ _ _ _ _ c.requires.within begun place c.insert.ensures.between c.insert.ensures.ok
    c.insert.ensures.err

pub returns-in-Err-clause-part : goal.returns-in-Err-clause-part
returns-in-Err-clause-part c i a =
    part-inserted _ c.begin.new.self c.insert.new.self c.in-Err.place c.args.number c.insert.ensures.ok
    c.insert.ensures.err i (part-same c.args.order.now c.begin.new.self c.begin.ensures.same i a)

pub returns-in-Err-clause-has : goal.returns-in-Err-clause-has
returns-in-Err-clause-has c = has-inserted _ c.begin.new.self c.insert.new.self c.in-Err.place c.args.number
    c.insert.ensures.ok
