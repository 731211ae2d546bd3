-- `sort_slots` sorts by fronts and keys, because each call of its closure compares these.
use Rattle.std.proofs.Common.{rules}
use Rattle.std.proofs.lemmas.Fn.{always_returns_same}
use Rattle.std.proofs.lemmas.List.Sorted.{ranks_by}
use Rattle.mail_index.proofs.Words.{is_lt, nat_list_cmp_total}
use Rattle.mail_index.specs.Inside.KeyMaps.{slot_numbers, slot_cmp}
use Rattle.mail_index.proofs.build.key_order.sort_slots.Goals as goal

pub returns-clause-sorted : goal.returns-clause-sorted
returns-clause-sorted c = c.sort_unstable_by.ensures.sorted (λ one other. is_lt (slot_cmp c.args.entries.now one other))
    (ranks_by nat_list_cmp_total (slot_numbers c.args.entries.now))
    (always_returns_same _ _ _ (λ a r f k. search rules))
