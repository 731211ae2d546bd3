-- `push_ids` adds ids that fit into the value, because they are parts of it. What a failed call added is taken back.
use Rattle.header_text.proofs.Words.{arith}
use Rattle.header_text.proofs.HeaderLaws.IdLemmas.{ids_of-sized, ids_of-size}
use Rattle.header_text.proofs.TextFronts.{taken_back}
use Rattle.header_text.proofs.message_id.push_ids.Goals as goal

pub returns-else-is_err-clause-sizes : goal.returns-else-is_err-clause-sizes
returns-else-is_err-clause-sizes c = grind (arith, ids_of-sized)

pub returns-else-is_err-clause-size : goal.returns-else-is_err-clause-size
returns-else-is_err-clause-size c = grind (arith, ids_of-size)

pub returns-then-is_err-clause-refused : goal.returns-then-is_err-clause-refused
returns-then-is_err-clause-refused c = grind (arith, taken_back)
