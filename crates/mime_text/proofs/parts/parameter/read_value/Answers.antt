-- `read_value` adds a value without quotes, because this is all of the text before the bytes after it.
use Rattle.mime_text.proofs.Words.{arith, length-split_while, take-split_while}
use Rattle.mime_text.proofs.parts.parameter.read_value.Goals as goal

pub slice_bounds-token-count : goal.slice_bounds-token-count
slice_bounds-token-count c = grind (arith, length-split_while)

pub returns-clause-value : goal.returns-clause-value
returns-clause-value c = grind (arith, take-split_while)
