-- After `PartReader::begin_again` the texts of a whole message come, because nothing is open and the header is empty.
use Rattle.mime_text.proofs.PassingLemmas.{comes-first}
use Rattle.mime_text.proofs.parts.part_reader.PartReader.begin_again.Goals as goal

pub returns-clause-comes : goal.returns-clause-comes
returns-clause-comes c = comes-first c.clear.new.self c.clear-2.new.self c.clear.ensures c.clear-2.ensures
