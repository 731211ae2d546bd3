-- `insert` puts a new key at the gap that was found, so the order stays sorted.
use Rattle.mail_index.proofs.Words.{◌≡◌, insert, subst}
use Rattle.mail_index.specs.Inside.KeyMaps.{slots_in, place_in, slot_for}
use Rattle.mail_index.proofs.BuildLaws.TableLemmas.{step-new, part-placed, among-placed}
use Rattle.mail_index.proofs.build.key_map.insert.Goals as goal

pub returns-in-Ok-clause-step : goal.returns-in-Ok-clause-step
returns-in-Ok-clause-step c =
    let slots = rw c.in_ok-number.ensures.number at c.in-Ok.ensures.ok in
    rw c.in_ok-number.ensures.ok (step-new _ _ _ _ _ c.requires.step c.requires.place c.insert.ensures.between slots)

pub returns-in-Ok-clause-part : goal.returns-in-Ok-clause-part
returns-in-Ok-clause-part c = part-placed c.args.order.now c.insert.new.self c.args.place c.in_ok-number.number
    c.in-Ok.ensures.ok

pub returns-in-Ok-clause-has : goal.returns-in-Ok-clause-has
returns-in-Ok-clause-has c = among-placed c.args.order.now c.insert.new.self c.args.place _
    (subst (λ n. slots_in c.insert.new.self
    ≡ insert (slots_in c.args.order.now) (place_in c.args.order.now c.args.place) (slot_for n c.args.place))
    c.in_ok-number.ensures.number c.in-Ok.ensures.ok)
