-- `MessageIds::push_ids_of` adds ids of an allowed size, because they are no longer than the body, for which there is
-- room.
use Rattle.mime_text.proofs.Words.{length, arith}
use Rattle.mime_text.proofs.IdSizes.{all_sized_after, sized_after}
use Rattle.mime_text.proofs.header.owned.MessageIds.push_ids_of.Goals as goal

pub invariant_of-self : goal.invariant_of-self
invariant_of-self c =
    grind (arith, sized_after)

pub returns-clause-sizes : goal.returns-clause-sizes
returns-clause-sizes c =
    let added = c.push_ids.ensures in
    all_sized_after c.self.inside.ids.items c.push_ids.new.ids.items _ (length c.args.body.now)
    (rw c.self.view_is c.requires.room) c.push_ids.result c.self.invariant
    (added.ids, added.sizes)
