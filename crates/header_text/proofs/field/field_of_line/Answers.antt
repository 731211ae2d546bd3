-- `field_of_line` cuts a line as the definition does, because the name is all of the line before the bytes after it.
use Rattle.header_text.proofs.Words.{arith, length-take, length-drop}
use Rattle.header_text.proofs.Fronts.{length-split_while, take-split_while}
use Rattle.header_text.proofs.HeaderLaws.HeaderLemmas.{named-begins, length-after_blanks}
use Rattle.header_text.proofs.field.field_of_line.Goals as goal

pub slice_bounds-name-count : goal.slice_bounds-name-count
slice_bounds-name-count c = grind (arith, length-split_while)

pub returns-in-58-clause-field : goal.returns-in-58-clause-field
returns-in-58-clause-field c = grind (arith, take-split_while, named-begins)

pub returns-in_default-clause-field : goal.returns-in_default-clause-field
returns-in_default-clause-field c = grind (arith, take-split_while)

pub returns-in-58-clause-fits : goal.returns-in-58-clause-fits
returns-in-58-clause-fits c = grind (arith, length-split_while, length-take, length-drop, length-after_blanks)
