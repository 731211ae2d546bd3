-- If `has_last_of` is false, the text doesn't begin with the boundary, because it is too short or its byte there
-- differs.
use Rattle.mime_text.proofs.Words.{◌-◌, length, arith, eq-eqb}
use Rattle.mime_text.proofs.FrameLemmas.{after-each}
use Rattle.mime_text.proofs.parts.delimiter.has_last_of.Goals as goal

pub returns-then-length-text : goal.returns-then-length-text
returns-then-length-text c = grind (
  arith,
  eq-eqb,
  after-each c.args.boundary.now c.args.text.now (length c.args.boundary.now - 1),
)

pub returns-else-length-text : goal.returns-else-length-text
returns-else-length-text c = grind (
  arith,
  after-each c.args.boundary.now c.args.text.now (length c.args.boundary.now - 1),
)
