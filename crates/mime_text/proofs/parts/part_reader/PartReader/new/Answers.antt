-- From a new reader the texts of a whole message come, because nothing is open and the header is empty.
use Rattle.mime_text.proofs.PassingLemmas.{comes-first}
use Rattle.mime_text.proofs.parts.part_reader.PartReader.new.Goals as goal

pub returns-clause-comes : goal.returns-clause-comes
returns-clause-comes c = comes-first c.new.result c.new-2.result c.new.ensures c.new-2.ensures
