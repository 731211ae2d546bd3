-- Each id has at most the length of the value, because the list has exactly the ids that `push_ids` added.
use Rattle.header_text.proofs.Words.{◌≡◌, ◌<◌, ◌≤◌, length, map, arith, ids_of}
use Rattle.header_text.proofs.HeaderLaws.IdLemmas.{each-kept}
use Rattle.header_text.proofs.message_id.message_ids.Goals as goal

pub returns-clause-sizes : goal.returns-clause-sizes
returns-clause-sizes c =
    let kept : map (λ id. id.items) c.push_ids.new.ids.items ≡ ids_of c.args.value.now = grind arith in
    each-kept (λ id. (0 < length id) × (length id ≤ length c.args.value.now)) c.push_ids.new.ids.items
    (ids_of c.args.value.now) kept c.in_ok-push_ids.ensures.sizes
