-- `spot_of` finds that a key is new where the look through its window ends.
use Rattle.mail_index.proofs.Words.{◌≡◌}
use Rattle.mail_index.proofs.BuildLaws.TableLemmas.{absent-vacant, absent-full}
use Rattle.mail_index.proofs.build.key_map.spot_of.Goals as goal

pub returns-in-Vacant : goal.returns-in-Vacant
returns-in-Vacant c = (
  absent-vacant _ _ _ _ c.args.order.now c.in-Vacant.slot c.requires.kept (rw (← c.requires.hash) c.in-Vacant.ensures),
  (c.in-Vacant.ensures.0, c.in-Vacant.ensures.1, λ slot inside before. (c.in-Vacant.ensures.2 slot inside before).0),
)

pub returns-in-Err : goal.returns-in-Err
returns-in-Err c = (
  absent-full _ _ _ _ _ _ c.requires.kept (rw (← c.requires.hash) c.in-Full.ensures) c.requires.step
      c.in-Err.ensures.place.gap,
  (λ slot inside. (c.in-Full.ensures slot inside).0),
  c.in-Err.ensures.place,
)
