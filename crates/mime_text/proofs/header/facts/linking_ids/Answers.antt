-- `linking_ids` returns the ids of all linking fields in order. There is room, because ids are no longer than their
-- fields.
use Rattle.mime_text.proofs.Words.{◌≡◌, ◌∙◌, true, refl, is_linking, arith}
use Rattle.mime_text.proofs.IdSizes.{ids_step, room_step}
use Rattle.mime_text.proofs.header.facts.linking_ids.Goals as goal

pub loop-field-preserved-in-Continue-1 : goal.loop-field-preserved-in-Continue-1
loop-field-preserved-in-Continue-1 c =
    let split = c.in-Some.ensures.steps in
    let added = c.in_ok-push_ids_of.ensures in
    let links : is_linking c.in-Some.field.name.now ≡ true = grind arith in (
      tt,
      tt,
      room_step _ _ _ _ _ _ split added.ids added.size c.loop-field.invariant.2,
      ids_step _ _ _ _ _ _ split added.ids _ links refl c.loop-field.invariant.3,
      added.sizes,
    )
