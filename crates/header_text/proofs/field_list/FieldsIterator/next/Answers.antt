-- `FieldsIterator::next` slices within the bytes, because a field ends where the next one begins, or at the end of all.
use Rattle.header_text.proofs.Words.{arith}
use Rattle.header_text.proofs.HeaderLaws.PlaceLemmas.{next_start-le}
use Rattle.header_text.proofs.field_list.FieldsIterator.next.Goals as goal

pub slice_bounds-result-end : goal.slice_bounds-result-end
slice_bounds-result-end c = grind (arith, next_start-le)

pub slice_bounds-result-end-2 : goal.slice_bounds-result-end-2
slice_bounds-result-end-2 c = grind (arith, next_start-le)
