-- `after_last_open` returns what is after the last `<`, because the search finds a place with none after it.
use Rattle.header_text.proofs.Words.{slice_index, arith, add-one, take_rest, false_from_ne_true}
use Rattle.header_text.proofs.HeaderLaws.IdLemmas.{after_last_open-last, after_last_open-none}
use Rattle.header_text.proofs.message_id.after_last_open.Goals as goal

pub returns-in_err-at : goal.returns-in_err-at
returns-in_err-at c = grind (arith, slice_index, false_from_ne_true, after_last_open-none)

pub returns : goal.returns
returns c = grind (arith, slice_index, add-one, take_rest, false_from_ne_true, after_last_open-last)
