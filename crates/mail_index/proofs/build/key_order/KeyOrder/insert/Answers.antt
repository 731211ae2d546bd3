-- `KeyOrder::insert` puts a slot at its place in the whole order, because its page is a part of this.
use Rattle.std.proofs.Common.{arith}
use Rattle.mail_index.proofs.Words.{set, insert, map-set, set-get_or, get_or-map}
use Rattle.mail_index.proofs.BuildLaws.PageLemmas.{inserted}
use Rattle.mail_index.proofs.build.key_order.KeyOrder.insert.Goals as goal

pub returns-in_err-insert-clause-err : goal.returns-in_err-insert-clause-err
returns-in_err-insert-clause-err c = grind (arith, set, map-set, get_or-map, set-get_or)

pub returns-then-length-len-clause-ok : goal.returns-then-length-len-clause-ok
returns-then-length-len-clause-ok c = grind (arith, inserted, map-set, set, insert, get_or-map)

pub returns-else-length-ge-PAGE-clause-ok : goal.returns-else-length-ge-PAGE-clause-ok
returns-else-length-ge-PAGE-clause-ok c = grind (arith, inserted, map-set, set, insert, get_or-map)
