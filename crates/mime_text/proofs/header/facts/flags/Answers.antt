-- `flags` has a flag exactly if its letter is in a field of status, field by field.
use Rattle.mime_text.proofs.Words.{◌≡◌, ◌∙◌, true, arith, is_status}
use Rattle.mime_text.proofs.FlagLemmas.{letter-step}
use Rattle.mime_text.proofs.header.facts.flags.Goals as goal

pub loop-field-preserved-then-is_status : goal.loop-field-preserved-then-is_status
loop-field-preserved-then-is_status c =
    let split = c.in-Some.ensures.steps in
    let status : is_status c.in-Some.field.name.now ≡ true = grind arith in (
      tt,
      tt,
      letter-step 82 (omega arith) _ _ _ _ _ _ split c.loop-field.invariant.2 status c.contains.ensures.value,
      letter-step 65 (omega arith) _ _ _ _ _ _ split c.loop-field.invariant.3 status
          c.contains-then-is_status.ensures.value,
      letter-step 70 (omega arith) _ _ _ _ _ _ split c.loop-field.invariant.4 status
          c.contains-then-is_status-2.ensures.value,
    )
