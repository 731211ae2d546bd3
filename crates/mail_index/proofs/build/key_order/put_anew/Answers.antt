-- `put_anew` leaves one page, which has the sorted slots of all entries.
use Rattle.std.proofs.Common.{arith}
use Rattle.std.specs.Vec.{with_item}
use Rattle.mail_index.proofs.Words.{◌≡◌, ◌∷◌, [], length, ap}
use Rattle.mail_index.specs.Inside.KeyMaps.{rows}
use Rattle.mail_index.proofs.BuildLaws.KeyMapLemmas.{among-within}
use Rattle.mail_index.proofs.BuildLaws.SortedSlots.{only-page, sorted-step, sorted-all}
use Rattle.mail_index.proofs.build.key_order.put_anew.Goals as goal

pub returns-clause-step : goal.returns-clause-step
returns-clause-step c =
    let one : length c.truncate.new.self.items ≡ 1 = grind arith in
    let pages = only-page _ c.sort_slots.new.slots one in
    sorted-step _ _ _ _ (ap rows pages) c.clear.ensures.items (ap length pages) c.requires.distinct
    c.write_slots.ensures.numbers c.write_slots.ensures.fronted c.sort_slots.ensures.permutation
    c.sort_slots.ensures.sorted

pub returns-clause-all : goal.returns-clause-all
returns-clause-all c i low =
    let one : length c.truncate.new.self.items ≡ 1 = grind arith in
    let pages = only-page _ c.sort_slots.new.slots one in
    sorted-all _ _ (record { heads = c.clear.new.self; pages = with_item c.truncate.new.self 0 c.sort_slots.new.slots })
    (ap rows pages) c.clear.ensures.items c.write_slots.ensures.numbers c.sort_slots.ensures.permutation i
    (omega arith)

pub returns-clause-part : goal.returns-clause-part
returns-clause-part c i a = returns-clause-all c i (among-within _ _ i c.requires.step.sorts.within a)
