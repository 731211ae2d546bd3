-- `trimmed_text` trims as the definition does. It cuts the text between characters, because each blank is a whole
-- character.
use Rattle.mairix_options.proofs.Words.{arith}
use Rattle.mairix_options.proofs.Trimming.{trimmed-parts, IsCharBoundary-blanks, IsCharBoundary-end_blanks}
use Rattle.mairix_options.proofs.blanks.trimmed_text.Goals as goal

pub range_from-rest-requires : goal.range_from-rest-requires
range_from-rest-requires c = grind (arith, IsCharBoundary-blanks)

pub range-requires-clause-end_boundary : goal.range-requires-clause-end_boundary
range-requires-clause-end_boundary c = grind (arith, IsCharBoundary-end_blanks)

pub returns : goal.returns
returns c = grind (arith, trimmed-parts)
