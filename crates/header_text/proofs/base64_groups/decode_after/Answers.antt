-- `decode_after` writes the bytes of the symbols after the first `start` bytes, because whole groups fill the room
-- exactly.
use Rattle.header_text.proofs.Words.{slice_index, arith}
use Rattle.header_text.proofs.WordLaws.GroupLemmas.{decoded-into}
use Rattle.header_text.proofs.base64_groups.decode_after.Goals as goal

pub returns : goal.returns
returns c = grind (arith, slice_index, decoded-into)
