-- `hold` gives nothing until four symbols are held, because the bytes of a group come when it is complete.
use Rattle.header_text.proofs.Words.{arith}
use Rattle.header_text.proofs.WordLaws.GroupLemmas.{hold-symbols, hold-bytes}
use Rattle.header_text.proofs.base64_reader.hold.Goals as goal

pub decode_groups-requires-clause-symbols : goal.decode_groups-requires-clause-symbols
decode_groups-requires-clause-symbols c =
    grind (arith, hold-symbols)

pub returns-clause-bytes : goal.returns-clause-bytes
returns-clause-bytes c = grind (arith, hold-bytes)
